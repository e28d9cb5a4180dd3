-- The numbers that the program answers: new 0, 1 or 3, call 0 or one of 2 to 7 (rules proofs/Numbers). Each occurs (rules proofs/Rows).
use Rattle.std.specs.Prelude.{if◌then◌else◌}
use mathlib.Core.Path.{◌≡◌, refl, sym, ap, subst}
use mathlib.Core.Bool.{Bool, true, false}
use mathlib.Core.Logic.{inl, inr}
use mathlib.Core.List.{[], ◌∷◌}
use Prim.Native.Nat.{ℕ}
use borrow.Author.Tests.{eqb-true}
use lib.Dec.{eqb}
use Rattle.rules.specs.Base.{Bytes}
use Rattle.rules.specs.Data.{Result}
use Rattle.rules.specs.Entry.{Start, Made, Refused}
use Rattle.rules.proofs.Numbers.{OneOf, refusals, Numbered, NewNumbered, call_number, new_number, one_more}
use Rattle.table_layout.specs.View.{view_table}
use Rattle.settle.specs.Contract.{Begun, Called, ruled}

pub call_answers : {t s o t' o' : Bytes} {n k : ℕ} → Called t s o t' o' n k → OneOf (0 ∷ refusals) n
call_answers {t} {s} {o} c = subst (OneOf (0 ∷ refusals)) (sym c.number) (go (ruled t s o) (call_number s _ (view_table t)))
  where
    go : (d : Result) → Numbered (view_table t) d → OneOf (0 ∷ refusals) d.number
    go d (inl e) = rw e
    go d (inr (n, h, e)) = rw e (one_more 0 refusals n h)

pub new_answers : {t s t' : Bytes} {n : ℕ} → Begun t s t' n → OneOf (0 ∷ 1 ∷ 3 ∷ []) n
new_answers {s = s} {t'} {n} b = go (eqb n 0) refl (subst NewNumbered b.is (new_number s))
  where
    go : (z : Bool) → eqb n 0 ≡ z → NewNumbered (if eqb n 0 then Made (view_table t') else Refused n) → OneOf (0 ∷ 1 ∷ 3 ∷ []) n
    go true e x = rw (eqb-true n 0 e)
    go false e x = one_more 0 (1 ∷ 3 ∷ []) n (told (rw e at x))
      where
        number : Start → ℕ
        number (Made t) = 1
        number (Refused n) = n

        told : NewNumbered (Refused n) → OneOf (1 ∷ 3 ∷ []) n
        told (inl (t, q)) = subst (OneOf (1 ∷ 3 ∷ [])) (sym (ap number q)) refl
        told (inr (m, h, q)) = subst (OneOf (1 ∷ 3 ∷ [])) (sym (ap number q)) h
