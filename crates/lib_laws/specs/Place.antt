-- What a place found by `scan` says of the lists of the rules: find, without, alter, any, insert, tail.
use Prim.Native.Nat.{ℕ, suc, ◌-◌, ◌≤◌, ◌<◌, suc-le-suc}
use Rattle.std.proofs.Math.Path.{◌≡◌, refl, subst}
use Rattle.std.proofs.Common.{ap, ◌∙◌}
use Rattle.std.specs.Prelude.{Bool, length, take, drop, get_or, set, if◌then◌else◌, None, Some}
use Rattle.std.proofs.Math.Bool.{true, false}
use mathlib.Core.List.{List, [], ◌∷◌, ◌++◌, tail}
use Rattle.std.proofs.Math.Numerals.{add-one}
use native.Mathlib.Omega.{arith}
use Rattle.rules.specs.Base.{find, without, alter, any, All}
use Rattle.rules.specs.Std as std
use Rattle.lib_laws.specs.Shift.{erase, insert}
use Rattle.lib_laws.specs.Scan.{scan}

-- place i is the first whose element passes
pub data First {A : Type 0} (t : A → Bool) : ℕ → List A → Type 0 where
  here : {x : A} {s : List A} → t x ≡ true → First t 0 (x ∷ s)
  there : {x : A} {s : List A} {i : ℕ} → t x ≡ false → First t i s → First t (suc i) (x ∷ s)

module _ {A : Type 0} (t : A → Bool) where
  scan_first : (k : ℕ) (s : List A) (i : ℕ) → scan t k s ≡ Some i → (k ≤ i) × First t (i - k) s
  unfolding scan
  scan_first k [] i e = let z : ◌≡◌ {A = ℕ} 0 1 = cc in absurd (omega arith)
  scan_first k (x ∷ s) i e = go (t x) refl e (scan_first (suc k) s i)
    where
      go : (b : Bool) → t x ≡ b → (if b then Some k else scan t (suc k) s) ≡ Some i → (scan t (suc k) s ≡ Some i → (suc k ≤ i) × First t (i - suc k) s)
          → (k ≤ i) × First t (i - k) (x ∷ s)
      go true q e r =
          let y : k ≡ i = cc in
          let z : 0 ≡ i - k = omega arith in
          (omega arith, subst (λ (j : ℕ). First t j (x ∷ s)) z (here q))
      go false q e r =
          let l = r e in
          let y : suc k ≤ i = l.0 in
          let z : suc (i - suc k) ≡ i - k = omega arith in
          (omega arith, subst (λ (j : ℕ). First t j (x ∷ s)) z (there q l.1))

  pub first_of : (s : List A) (i : ℕ) → scan t 0 s ≡ Some i → First t i s
  first_of s i e =
      let z : i - 0 ≡ i = omega arith in
      subst (λ (j : ℕ). First t j s) z (scan_first 0 s i e).1

  -- nothing passes
  scan_none : (k : ℕ) (s : List A) → scan t k s ≡ None → All (λ x. t x ≡ false) s
  unfolding scan
  scan_none k [] e = tt
  scan_none k (x ∷ s) e = go (t x) refl e (scan_none (suc k) s)
    where
      go : (b : Bool) → t x ≡ b → (if b then Some k else scan t (suc k) s) ≡ None → (scan t (suc k) s ≡ None → All (λ x. t x ≡ false) s) → All (λ x. t x ≡ false) (x ∷ s)
      go true q e r = let z : ◌≡◌ {A = ℕ} 0 1 = cc in absurd (omega arith)
      go false q e r = (q, r e)

  pub none_of : (s : List A) → scan t 0 s ≡ None → All (λ x. t x ≡ false) s
  none_of s e = scan_none 0 s e

-- ---- where i is the first place
module _ {A : Type 0} {t : A → Bool} where
  first_within : {i : ℕ} {s : List A} → First t i s → i < length s
  first_within (here e) = omega arith
  first_within (there e f) = suc-le-suc (first_within f)

  first_passes : {i : ℕ} {s : List A} (d : A) → First t i s → t (get_or s i d) ≡ true
  first_passes d (here e) = e
  first_passes d (there e f) = first_passes d f

  first_find : {i : ℕ} {s : List A} (d : A) → First t i s → find t s ≡ Some (get_or s i d)
  first_find d (here e) = rw e
  first_find d (there e f) = rw e (first_find d f)

  first_any : {i : ℕ} {s : List A} → First t i s → any t s ≡ true
  first_any (here e) = rw e
  first_any (there e f) = rw e (first_any f)

  first_alter : {i : ℕ} {s : List A} (g : A → A) (d : A) → First t i s → alter t g s ≡ set s i (g (get_or s i d))
  first_alter g d (here e) = rw e
  first_alter g d (there {x = x} e f) = rw e (ap (λ (s : List A). x ∷ s) (first_alter g d f))

  first_without : {i : ℕ} {s : List A} → First t i s → without t s ≡ take i s ++ drop (suc i) s
  first_without (here e) = rw e
  first_without (there {x = x} e f) = rw e (ap (λ (s : List A). x ∷ s) (first_without f))

module _ {A : Type 0} (t : A → Bool) (s : List A) (i : ℕ) (e : scan t 0 s ≡ Some i) where
  pub place_within : i < length s
  place_within = first_within (first_of t s i e)

  pub place_passes : (d : A) → t (get_or s i d) ≡ true
  place_passes d = first_passes d (first_of t s i e)

  pub find_at : (d : A) → find t s ≡ Some (get_or s i d)
  find_at d = first_find d (first_of t s i e)

  pub any_at : any t s ≡ true
  any_at = first_any (first_of t s i e)

  pub without_at : without t s ≡ erase i s
  unfolding erase
  without_at = first_without (first_of t s i e) ∙ rw add-one

  pub alter_at : (g : A → A) (d : A) → alter t g s ≡ set s i (g (get_or s i d))
  alter_at g d = first_alter g d (first_of t s i e)

-- ---- where nothing passes
module _ {A : Type 0} (t : A → Bool) where
  no_find : (s : List A) → All (λ x. t x ≡ false) s → find t s ≡ None
  no_find [] a = refl
  no_find (x ∷ s) a = rw a.0 (no_find s a.1)

  no_any : (s : List A) → All (λ x. t x ≡ false) s → any t s ≡ false
  no_any [] a = refl
  no_any (x ∷ s) a = rw a.0 (no_any s a.1)

  no_without : (s : List A) → All (λ x. t x ≡ false) s → without t s ≡ s
  no_without [] a = refl
  no_without (x ∷ s) a = rw a.0 (ap (λ (u : List A). x ∷ u) (no_without s a.1))

  no_alter : (g : A → A) (s : List A) → All (λ x. t x ≡ false) s → alter t g s ≡ s
  no_alter g [] a = refl
  no_alter g (x ∷ s) a = rw a.0 (ap (λ (u : List A). x ∷ u) (no_alter g s a.1))

module _ {A : Type 0} (t : A → Bool) (s : List A) (e : scan t 0 s ≡ None) where
  pub find_nowhere : find t s ≡ None
  find_nowhere = no_find t s (none_of t s e)

  pub any_nowhere : any t s ≡ false
  any_nowhere = no_any t s (none_of t s e)

  pub without_nowhere : without t s ≡ s
  without_nowhere = no_without t s (none_of t s e)

  pub alter_nowhere : (g : A → A) → alter t g s ≡ s
  alter_nowhere g = no_alter t g s (none_of t s e)

-- ---- a new element in the order of keys: before the first that it is less than, else at the end
module _ {A : Type 0} (less : A → A → Bool) (a : A) where
  first_insert : {i : ℕ} {s : List A} → First (less a) i s → std.insert less a s ≡ insert i a s
  unfolding std.insert insert
  first_insert (here e) = rw e
  first_insert (there {x = x} e f) = rw e (ap (λ (u : List A). x ∷ u) (first_insert f))

  no_insert : (s : List A) → All (λ x. less a x ≡ false) s → std.insert less a s ≡ s ++ (a ∷ [])
  unfolding std.insert
  no_insert [] q = refl
  no_insert (x ∷ s) q = rw q.0 (ap (λ (u : List A). x ∷ u) (no_insert s q.1))

  pub insert_at : (s : List A) (i : ℕ) → scan (less a) 0 s ≡ Some i → std.insert less a s ≡ insert i a s
  insert_at s i e = first_insert (first_of (less a) s i e)

  pub insert_last : (s : List A) → scan (less a) 0 s ≡ None → std.insert less a s ≡ s ++ (a ∷ [])
  insert_last s e = no_insert s (none_of (less a) s e)

-- an insertion at the end
pub insert_end : {A : Type 0} (i : ℕ) (a : A) (s : List A) → i ≡ length s → insert i a s ≡ s ++ (a ∷ [])
unfolding insert
insert_end {A} i a s e = rw e (go s)
  where
    go : (s : List A) → take (length s) s ++ a ∷ drop (length s) s ≡ s ++ (a ∷ [])
    go [] = refl
    go (x ∷ s) = ap (λ (u : List A). x ∷ u) (go s)

-- the first removed
pub tail_is : {A : Type 0} (s : List A) → tail s ≡ erase 0 s
unfolding erase
tail_is [] = refl
tail_is (x ∷ s) = refl
