-- Runs of n bytes compared word by word: the first i are the same, and what follows decides.
use Rattle.std.specs.Prelude.{◌≡◌, refl, ℕ, ◌+◌, ◌-◌, ◌≤◌, Bool, true, false, ◌&&◌, List, length, take, drop}
use Rattle.std.proofs.Common.{arith, sym, ◌∙◌}
use Rattle.rules.specs.Base.{same}
use Rattle.lib_laws.specs.Words.{same_runs}

module _ (n : ℕ) (s : List ℕ) (at : ℕ) (t : List ℕ) (from : ℕ) where
  -- whether the j bytes behind the first i are the same
  abbrev pub alike : ℕ → ℕ → Bool
  alike i j = same (take j (drop (at + i) s)) (take j (drop (from + i) t))

  pub record Level (i : ℕ) : Type 0 where
    pub fits : i ≤ n
    pub is : same (take i (drop at s)) (take i (drop from t)) ≡ true

  pub level_start : Level 0
  level_start = record { fits = omega arith; is = refl }

  front : (a b : Bool) → (a && b) ≡ true → a ≡ true
  front true b e = refl
  front false b e = e

  module _ (r : at + n ≤ length s) (q : from + n ≤ length t) where
    -- a run in two parts
    parts : (i j : ℕ) → i + j ≤ n → same (take (i + j) (drop at s)) (take (i + j) (drop from t)) ≡ (same (take i (drop at s)) (take i (drop from t)) && alike i j)
    parts i j h = same_runs i j s at t from (omega arith) (omega arith)

    whole : (i : ℕ) → i ≤ n → same (take n (drop at s)) (take n (drop from t)) ≡ (same (take i (drop at s)) (take i (drop from t)) && alike i (n - i))
    whole i h = let k : i + (n - i) ≡ n = omega arith in (rw k at (parts i (n - i) (omega arith)))

    module _ {i : ℕ} (l : Level i) where
      pub level_next : {b : Bool} → i + 8 ≤ n → b ≡ alike i 8 → b ≡ true → Level (i + 8)
      level_next h e y = record { fits = h; is = rw (parts i 8 h, l.is) (sym e ∙ y) }

      pub level_stop : {b : Bool} → i + 8 ≤ n → b ≡ alike i 8 → b ≡ false → false ≡ same (take n (drop at s)) (take n (drop from t))
      level_stop h e y = sym (rw (whole (i + 8) h, parts i 8 h, l.is, sym e ∙ y))

      pub level_end : {b : Bool} → 8 ≤ n → n - 8 ≤ i → b ≡ alike (n - 8) 8 → b ≡ same (take n (drop at s)) (take n (drop from t))
      level_end h j e =
          let f = l.fits in
          let k : n - 8 + (i - (n - 8)) ≡ i = omega arith in
          let z : (same (take (n - 8) (drop at s)) (take (n - 8) (drop from t)) && alike (n - 8) (i - (n - 8))) ≡ true =
          sym (parts (n - 8) (i - (n - 8)) (omega arith)) ∙ (rw (← k) at l.is) in
          let y : same (take (n - 8) (drop at s)) (take (n - 8) (drop from t)) ≡ true = front (same (take (n - 8) (drop at s)) (take (n - 8) (drop from t))) (alike (n - 8) (i - (n - 8))) z in
          let w : n - (n - 8) ≡ 8 = omega arith in
          e ∙ sym (rw (whole (n - 8) (omega arith), y, w))
