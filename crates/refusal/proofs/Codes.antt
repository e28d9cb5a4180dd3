-- 0 is no refusal's number.
use Rattle.std.specs.Prelude.{◌≤◌}
use Rattle.std.proofs.Common.{lit≤}
use Rattle.refusal.specs.declared.Refusal.{Refusal}
use Rattle.refusal.specs.declared.Refusal.TheVariants.{Settings, Buffer, Record, Numbers, Links, Names, Paths}
use Rattle.refusal.specs.Code.{code}

pub code_some : (r : Refusal) → 1 ≤ code r
code_some Settings = lit≤ tt
code_some Buffer = lit≤ tt
code_some Record = lit≤ tt
code_some Numbers = lit≤ tt
code_some Links = lit≤ tt
code_some Names = lit≤ tt
code_some Paths = lit≤ tt
