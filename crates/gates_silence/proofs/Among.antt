-- Whether a digest is among those that are shown.
use Rattle.std.specs.Prelude.{◌≡◌, refl, List, [], ◌∷◌, map, ℕ, eqb}
use Rattle.std.proofs.Common.{arith}
use Rattle.std.proofs.lemmas.Bool.Decides.{nat_tests}
use Rattle.std.specs.List.{list_any}
use Rattle.std.specs.Cmp.Lexicographic.{pointwise}
use Rattle.node_addr.specs.declared.Fixed.{Fixed}
use Rattle.rules.specs.Base.{Bytes, any, same}
use Rattle.gates_types.specs.View.{view_digest}

eqb_sym : (a b : ℕ) → eqb a b ≡ eqb b a
eqb_sym a b = grind (arith, nat_tests)

same_turned : (e s : Bytes) → pointwise eqb s e ≡ same e s
same_turned [] [] = refl
same_turned [] (b ∷ s) = refl
same_turned (a ∷ e) [] = refl
same_turned (a ∷ e) (b ∷ s) = rw (same_turned e s, eqb_sym b a)

pub among : (e : Bytes) (ds : List (Fixed 32)) → list_any (λ d. pointwise eqb d.0 e) ds ≡ any (same e) (map view_digest ds)
among e [] = refl
among e (d ∷ ds) = rw (same_turned e d.0, among e ds)
