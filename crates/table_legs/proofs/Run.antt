-- What stands in the legs' part is a run of the table, from its place to its end.
use Rattle.std.specs.Prelude.{◌≡◌, ℕ, ◌+◌, ◌-◌, take, drop}
use Rattle.std.proofs.Common.{ap, ◌∙◌, arith}
use Rattle.rules.specs.Base.{Bytes}
use Rattle.legs.specs.At.{Stands}
use Rattle.table_layout.specs.Layout.{at_legs}
use Rattle.table_layout.specs.View.{legs_in, FitTable}
use Rattle.table_layout.proofs.Told.{stands_whole}

pub stands_run : {bs : Bytes} {at n : ℕ} {t : Bytes} → FitTable t → Stands bs at n (legs_in t) → take (at_legs + at + n - (at_legs + at)) (drop (at_legs + at) t) ≡ bs
stands_run {at = at} {n} {t} f s =
    let e : at_legs + at + n - (at_legs + at) ≡ n = omega arith in
    ap (λ (k : ℕ). take k (drop (at_legs + at) t)) e ∙ (stands_whole f s).is
