-- A part of the table that is made zeros shows nothing.
use Rattle.std.specs.Prelude.{◌≡◌, refl, List, [], ◌∷◌, ◌++◌, ℕ, ◌+◌, ◌≤◌, length, take, drop, replicate}
use Rattle.std.proofs.Common.{sym, ap, ◌∙◌, subst, append-nil, arith, length-take-le, length-drop, drop_of_length-le}
use Rattle.rules.specs.Base.{Bytes}
use Rattle.rules.specs.Data.{Leg}
use Rattle.rules.specs.Settle.{with_legs}
use Rattle.lib_laws.specs.Splice.{splice, Wrote}
use Rattle.legs.specs.View.{FitLegs, view_legs}
use Rattle.legs.specs.Same.{fit_new, shows_none}
use Rattle.table_layout.specs.View.{legs_in, view_table, FitTable, Told}
use Rattle.table_layout.proofs.Told.{told_same, told_is, told_legs}
use Rattle.legs_entry.specs.Layout.{legs_len}
use Rattle.table_layout.specs.Layout.{at_legs}

-- all bytes written
whole : {xs : Bytes} {n : ℕ} {bs ys : Bytes} {r : ℕ} → Wrote xs 0 n bs ys r → length xs ≡ n → ys ≡ bs
unfolding splice
whole {xs} {n} {bs} w e =
    let z : drop (0 + length bs) xs ≡ [] = drop_of_length-le xs {i = 0 + length bs} (omega (arith, w.size)) in
    w.is ∙ ap (λ (u : Bytes). bs ++ u) z ∙ append-nil bs

pub legs_size : {t : Bytes} → FitTable t → length (legs_in t) ≡ legs_len
legs_size {t} f = length-take-le legs_len (drop at_legs t) (rw length-drop (omega (arith, f.size)))

pub legs_room : {t : Bytes} → FitTable t → 0 + legs_len ≤ length (legs_in t)
legs_room f = omega (arith, legs_size f)

pub legs_cleared : {t l : Bytes} {r : ℕ} → FitTable t → Wrote (legs_in t) 0 legs_len (replicate legs_len 0) l r → Told (take at_legs t ++ (l ++ drop legs_len (drop at_legs t))) (with_legs [] (view_table t))
legs_cleared {t} {l} f w =
    let e : l ≡ replicate legs_len 0 = whole w (legs_size f) in
    told_legs f (subst FitLegs (sym e) fit_new) (ap view_legs e ∙ shows_none)

-- there was none
no_legs : (s : List Leg) → length s ≡ 0 → s ≡ []
no_legs [] e = refl
no_legs (g ∷ s) e = absurd (omega (arith, e))

pub none_cleared : {t : Bytes} → FitTable t → length (view_table t).legs ≡ 0 → Told t (with_legs [] (view_table t))
none_cleared {t} f e = told_is (told_same f) (ap (λ (s : List Leg). with_legs s (view_table t)) (no_legs (view_table t).legs e))
