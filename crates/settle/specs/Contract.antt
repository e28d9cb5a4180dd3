-- What new and call promise, whatever the record, the buffer and the clock.
use Rattle.std.specs.Prelude.{◌≡◌, ◌++◌, ℕ, eqb, length, drop, if◌then◌else◌}
use Rattle.rules.specs.Base.{Bytes}
use Rattle.rules.specs.Data.{Result}
use Rattle.rules.specs.Output.{outputs}
use Rattle.rules.specs.Entry.{Made, Refused}
use Rattle.rules.specs.Entry as rule
use Rattle.rules.specs.Bounds.{Bounds}
use Rattle.table_layout.specs.View.{view_table, FitTable}

-- a table that new or a call left: canonical bytes, within the limits
pub record Left (t : Bytes) : Type 0 where
  pub fit : FitTable t
  pub bounds : Bounds (view_table t)

-- new, lent the bytes t and the record s, left t' and answered n
pub record Begun (t s t' : Bytes) (n : ℕ) : Type 0 where
  -- the number is the rules', and so is the table
  pub is : rule.new s ≡ (if eqb n 0 then Made (view_table t') else Refused n)
  -- a refusal changes nothing
  pub refused : (n ≡ 0 → ⊥) → t' ≡ t
  pub left : n ≡ 0 → Left t'

-- what the rules answer to the record s and a buffer as long as o
abbrev pub ruled : Bytes → Bytes → Bytes → Result
ruled t s o = rule.call s (length o) (view_table t)

abbrev pub ruled_bytes : Bytes → Bytes → Bytes → Bytes
ruled_bytes t s o = outputs (ruled t s o).step.outs

-- call, lent the table t, the record s and the buffer o, left t' and o' and answered n and k
pub record Called (t s o t' o' : Bytes) (n k : ℕ) : Type 0 where
  pub number : n ≡ (ruled t s o).number
  -- a refusal changes no byte of table and buffer
  pub refused : (n ≡ 0 → ⊥) → (t' ≡ t) × (o' ≡ o)
  -- the table shows as the rules' table, and is one for the next call
  pub table : view_table t' ≡ (ruled t s o).step.table
  pub left : Left t'
  -- the output bytes are the rules', and the bytes beyond keep what they held
  pub size : k ≡ length (ruled_bytes t s o)
  pub bytes : o' ≡ ruled_bytes t s o ++ drop k o
