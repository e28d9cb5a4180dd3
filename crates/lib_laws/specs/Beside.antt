-- Runs of bytes compared: whether they are the same; a run of a list from a place on, byte by byte.
use Rattle.std.specs.Prelude.{ℕ, suc, ◌+◌, ◌≤◌, ◌<◌, ◌≡◌, refl, Bool, true, false, ◌&&◌, List, [], ◌∷◌, eqb, length, take, drop, get_or}
use Rattle.std.proofs.Common.{sym, ap, ap₂, ◌∙◌, arith, eqb-true, eq-eqb, drop-cons, get_or-take, get_or-drop, length-take-le, drop_of_length-le, length-drop}
use Rattle.rules.specs.Base.{same}

pub same_refl : (xs : List ℕ) → same xs xs ≡ true
same_refl [] = refl
same_refl (x ∷ xs) = rw (eq-eqb x x refl) (same_refl xs)

pub same_true : (xs ys : List ℕ) → same xs ys ≡ true → xs ≡ ys
same_true [] [] e = refl
same_true [] (y ∷ ys) e = cc
same_true (x ∷ xs) [] e = cc
same_true (x ∷ xs) (y ∷ ys) e = go (eqb x y) refl (same_true xs ys) e
  where
    go : (b : Bool) → eqb x y ≡ b → (same xs ys ≡ true → xs ≡ ys) → (b && same xs ys) ≡ true → x ∷ xs ≡ y ∷ ys
    go true q r e = ap₂ (λ (z : ℕ) (zs : List ℕ). z ∷ zs) (eqb-true x y q) (r e)
    go false q r e = cc

pub same_yes : (xs ys : List ℕ) → xs ≡ ys → same xs ys ≡ true
same_yes xs ys e = rw e (same_refl ys)

pub same_no : (xs ys : List ℕ) → (xs ≡ ys → ⊥) → same xs ys ≡ false
same_no xs ys d = go (same xs ys) refl
  where
    go : (b : Bool) → same xs ys ≡ b → b ≡ false
    go true e = absurd (d (same_true xs ys e))
    go false e = refl

-- runs of different lengths are not the same
pub same_apart : (xs ys : List ℕ) → (length xs ≡ length ys → ⊥) → same xs ys ≡ false
same_apart xs ys d = same_no xs ys (λ e. d (ap length e))

pub same_swap : (xs ys : List ℕ) → same xs ys ≡ same ys xs
same_swap xs ys = go (same ys xs) refl
  where
    go : (b : Bool) → same ys xs ≡ b → same xs ys ≡ b
    go true e = same_yes xs ys (sym (same_true ys xs e))
    go false e = same_no xs ys (λ q. absurd (let z : ◌≡◌ {A = Bool} true false = sym (same_yes ys xs (sym q)) ∙ e in let y : ◌≡◌ {A = ℕ} 0 1 = cc in omega arith))

-- ---- a run from a place on
pub taken_cons : (n : ℕ) (xs : List ℕ) (i : ℕ) → n ≤ length xs → i < n → drop i (take n xs) ≡ get_or xs i 0 ∷ drop (suc i) (take n xs)
taken_cons n xs i h p = drop-cons (take n xs) i 0 (rw (length-take-le n xs h) p) ∙ rw (get_or-take n xs i 0 p)

pub taken_end : (n : ℕ) (xs : List ℕ) (i : ℕ) → n ≤ length xs → n ≤ i → drop i (take n xs) ≡ []
taken_end n xs i h p = drop_of_length-le (take n xs) {i = i} (rw (length-take-le n xs h) p)

-- the same of a run at a place
pub run_cons : (n : ℕ) (s : List ℕ) (at i : ℕ) → at + n ≤ length s → i < n → drop i (take n (drop at s)) ≡ get_or s (at + i) 0 ∷ drop (suc i) (take n (drop at s))
run_cons n s at i h p = taken_cons n (drop at s) i (rw length-drop (omega arith)) p ∙ rw (get_or-drop at s i 0)

pub run_end : (n : ℕ) (s : List ℕ) (at i : ℕ) → at + n ≤ length s → n ≤ i → drop i (take n (drop at s)) ≡ []
run_end n s at i h p = taken_end n (drop at s) i (rw length-drop (omega arith)) p
