-- Steps in a row, each lent the phase and the table that the last one left; and demand 3 of them.
use Rattle.std.specs.Prelude.{◌≡◌, List, [], ◌∷◌, ◌++◌, ℕ, take}
use Rattle.rules.specs.Base.{Bytes}
use Rattle.rules.specs.Output.{done_record}
use Rattle.settle.specs.Layout.{buffer_len}
use Rattle.settle.specs.Contract.{Begun}
use Rattle.settle.specs.Promise.{Exchange, Each, Promised}
use Rattle.tape.specs.Step.{Steps}
use Rattle.tape.specs.declared.session.Phase.{Phase}
use Rattle.tape.specs.declared.session.Phase.TheVariants as phase

-- What is kept of a step: its record, the bytes that it wrote, and the table's bytes when it ended.
pub record Seen : Type 0 where
  pub bytes : Bytes
  pub written : Bytes
  pub left : Bytes

-- from a phase and a table to a phase and a table, with any buffers
pub data Row : Phase → Bytes → List Seen → Phase → Bytes → Type 0 where
  end : {p : Phase} {t : Bytes} → Row p t [] p t
  step : {p q v : Phase} {t t' u o o' : Bytes} {n : ℕ} {l : List Seen} (r : Bytes) → Steps p t r o t' o' q n → Row q t' l v u
      → Row p t (record { bytes = r; written = take n o'; left = t' } ∷ l) v u

-- A step and the exchange with call in it: the same record, with the buffer that a step lends; the outputs with Done behind them; the same table.
pub record Same (x : Exchange) (y : Seen) : Type 0 where
  pub bytes : x.fed.bytes ≡ y.bytes
  pub buffer : x.fed.buffer ≡ buffer_len
  pub written : y.written ≡ x.written ++ done_record x.number
  pub left : x.left ≡ y.left

-- the first record, a, made a table, and settle's promise holds of the exchanges of the others
pub record Kept (t : Bytes) (a : Seen) (s : List Seen) (u : Bytes) : Type 0 where
  pub begun : Begun t a.bytes a.left 0
  pub exchanges : List Exchange
  pub alike : Each Same exchanges s
  pub promised : Promised a.left exchanges u

-- for every row of steps from the first on, in which a table was made
abbrev pub Demand : Type 0
Demand = (t : Bytes) (a : Seen) (s : List Seen) (u : Bytes) → Row phase.Before t (a ∷ s) phase.Running u → Kept t a s u
