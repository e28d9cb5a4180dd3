-- What `?` hands on: the error of what was asked.
use Rattle.std.specs.Prelude.{◌≡◌, None, Option, Ok, Err, Result}
use Rattle.std.specs.Option.{ok_or}
use Rattle.std.specs.Result.{IsErrAnd}
use Rattle.std.proofs.Common.{ap, ◌∙◌}

abbrev error : {A E : Type 0} → E → Result A E → E
error d (Ok x) = d
error d (Err e) = e

pub passed : {A E : Type 0} {r : Result A E} {e : E} → IsErrAnd r (λ y. y ≡ e) → r ≡ Err e
passed {r = Ok x} p = absurd p
passed {r = Err y} p = ap Err p

-- the error that stands in for a value that is missing
pub passed_missing : {A B E : Type 0} {r : Result B E} {o : Option A} {e d : E} → IsErrAnd r (λ y. y ≡ e) → Err e ≡ ok_or o d → o ≡ None → r ≡ Err d
passed_missing {A} {B} {E} {d = d} p v n = passed p ∙ ap (λ (x : Result A E). Err (error d x)) (v ∙ ap (λ (o : Option A). ok_or o d) n)
