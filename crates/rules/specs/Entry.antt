-- The two entries, from bytes and the lent buffer's length.
use Rattle.std.specs.Prelude.{[], ℕ, ltb, if◌then◌else◌}
use Rattle.rules.specs.Base.{option, Bytes}
use Rattle.rules.specs.Time.{Params, out_of_range}
use Rattle.rules.specs.Data.{Table, Result}
use Rattle.rules.specs.Settle.{refuse, step}
use Rattle.rules.specs.Record.{read_call, read_new}

-- `Table::new`: a node that holds nothing
unfoldable pub new_table : Bytes → ℕ → Params → Table
new_table me first c = record { me = me; params = c; next = first; links = []; legs = []; held = []; gates = [] }

pub data Start : Type 0 where
  Made : Table → Start
  Refused : ℕ → Start

-- 3, then 1; a refused new makes no table
unfoldable pub new : Bytes → Start
new s = option (read_new s) (Refused 3) λ b. if out_of_range b.params then Refused 1 else Made (new_table b.me b.first b.params)

-- 2, then 3, then the call's own
unfoldable pub call : Bytes → ℕ → Table → Result
call s buffer t = if ltb buffer 10_240 then refuse 2 t else option (read_call s) (refuse 3 t) λ c. step c.now c.call t
