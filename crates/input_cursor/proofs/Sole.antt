-- The bytes determine what a reader answers: whether it reads, the value, and the place that the cursor is left at, where the next field begins.
use Rattle.std.specs.Prelude.{◌≡◌, refl, ℕ, List, length, drop, None, Option, Some, option_map}
use Rattle.std.proofs.Common.{sym, ap, ◌∙◌, arith, length-drop}
use Rattle.rules.specs.Field.{Reader}
use Rattle.input_cursor.specs.declared.Cursor.{Cursor}
use Rattle.input_cursor.specs.Took.{Took, left_at}

pub record Same {A : Type 0} (o₁ o₂ : Option A) (c₁ c₂ : Cursor) : Type 0 where
  pub answer : o₁ ≡ o₂
  pub next : c₁.at ≡ c₂.at

pub sole : {A : Type 0} {p : Reader A} {c c₁ c₂ : Cursor} {o₁ o₂ : Option A} → Took p c o₁ c₁ → Took p c o₂ c₂ → Same o₁ o₂ c₁ c₂
sole {A} {c = c} {c₁} {c₂} {o₁} {o₂} x y = go o₁ o₂ x.lost y.lost (sym x.is ∙ y.is)
  where
    left : Cursor → A → A × List ℕ
    left d v = (v, drop d.at c.rec.now)

    place : (v w : A) → left c₁ v ≡ left c₂ w → c₁.at ≡ c₂.at
    place v w e =
        let l : length (drop c₁.at c.rec.now) ≡ length (drop c₂.at c.rec.now) = ap (λ (q : A × List ℕ). length q.1) e in
        omega (arith, rw x.rec at c₁.within, rw y.rec at c₂.within, simp length-drop at l)

    go : (o₁ o₂ : Option A) → left_at o₁ c₁.at → left_at o₂ c₂.at → option_map (left c₁) o₁ ≡ option_map (left c₂) o₂ → Same o₁ o₂ c₁ c₂
    go (Some v) (Some w) a b e = let q : left c₁ v ≡ left c₂ w = cc in record { answer = ap Some (ap (λ (r : A × List ℕ). r.0) q); next = place v w q }
    go (Some v) None a b e = cc
    go None (Some w) a b e = cc
    go None None a b e = record { answer = refl; next = a ∙ sym b }
