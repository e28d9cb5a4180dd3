-- The numbers of refusals.
use Rattle.std.specs.Prelude.{ℕ, Result, Ok, Err}
use Rattle.refusal.specs.declared.Refusal.{Refusal}
use Rattle.refusal.specs.declared.Refusal.TheVariants.{Settings, Buffer, Record, Numbers, Links, Names, Paths}

abbrev pub code : Refusal → ℕ
code Settings = 1
code Buffer = 2
code Record = 3
code Numbers = 4
code Links = 5
code Names = 6
code Paths = 7

-- 0 where it is none
abbrev pub number_of : {A : Type 0} → Result A Refusal → ℕ
number_of (Ok a) = 0
number_of (Err r) = code r
