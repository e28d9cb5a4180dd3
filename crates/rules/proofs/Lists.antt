-- Branches, and sums over lists that lose, gain or change one element.
use Rattle.std.specs.Prelude.{if◌then◌else◌, None, Option, Some}
use mathlib.Core.Path.{◌≡◌, refl, sym, subst}
use mathlib.Core.Bool.{Bool, true, false, ◌||◌}
use mathlib.Core.List.{List, [], ◌∷◌, ◌++◌}
use Prim.Native.Nat.{ℕ, ◌+◌, ◌≤◌}
use native.Mathlib.Omega.{arith}
use lib.Dec.{T, eqb, eqb→eq, eqb_refl}
use Rattle.rules.specs.Base.{option, find, without, any, keep, alter, tally, one, All}
use Rattle.rules.specs.Std.{insert}

-- ---- going by cases: the goal must be P of the branch

pub if_by : {A : Type 0} (P : A → Type 0) (b : Bool) {x y : A} → (b ≡ true → P x) → (b ≡ false → P y) → P (if b then x else y)
if_by P true f g = f refl
if_by P false f g = g refl

pub option_by : {A B : Type 0} (P : B → Type 0) (o : Option A) {x : B} {f : A → B} → (o ≡ None → P x) → ((a : A) → o ≡ Some a → P (f a)) → P (option o x f)
option_by P None f g = f refl
option_by P (Some a) f g = g a refl

pub eqb_sound : (m n : ℕ) → eqb m n ≡ true → m ≡ n
eqb_sound m n e = eqb→eq m n (subst T (sym e) tt)

pub eqb_same : (n : ℕ) → eqb n n ≡ true
eqb_same n = T_true _ (eqb_refl n)
  where
    T_true : (b : Bool) → T b → b ≡ true
    T_true true t = refl
    T_true false t = absurd t

module _ {A : Type 0} where
  pub tally_append : (f : A → ℕ) (s u : List A) → tally f (s ++ u) ≡ tally f s + tally f u
  tally_append f [] u = omega arith
  tally_append f (a ∷ s) u = omega (arith, tally_append f s u)

  pub all_append : (P : A → Type 0) (s u : List A) → All P s → All P u → All P (s ++ u)
  all_append P [] u p q = q
  all_append P (a ∷ s) u p q = (p.0, all_append P s u p.1 q)

  pub all_map : (P Q : A → Type 0) → ((a : A) → P a → Q a) → (s : List A) → All P s → All Q s
  all_map P Q h [] p = tt
  all_map P Q h (a ∷ s) p = (h a p.0, all_map P Q h s p.1)

  module _ (test : A → Bool) where
    pub find_test : (s : List A) (a : A) → find test s ≡ Some a → test a ≡ true
    find_test [] a e = cc
    find_test (b ∷ s) a e = go (test b) refl (λ h. find_test s a h) e
      where
        go : (c : Bool) → test b ≡ c → (find test s ≡ Some a → test a ≡ true) → (if c then Some b else find test s) ≡ Some a → test a ≡ true
        go true t ih h = cc
        go false t ih h = ih h

    -- what one less weighs less
    pub tally_without : (f : A → ℕ) (s : List A) (a : A) → find test s ≡ Some a → tally f (without test s) + f a ≡ tally f s
    tally_without f [] a e = cc
    tally_without f (b ∷ s) a e = go (test b) (λ h. tally_without f s a h) e
      where
        go : (c : Bool) → (find test s ≡ Some a → tally f (without test s) + f a ≡ tally f s) → (if c then Some b else find test s) ≡ Some a → tally f (if c then s else b ∷ without test s) + f a ≡ f b + tally f s
        go true ih h =
            let same : f b ≡ f a = cc in
            omega arith
        go false ih h = omega (arith, ih h)

    pub tally_alter : (f : A → ℕ) (g : A → A) (s : List A) (a : A) → find test s ≡ Some a → tally f (alter test g s) + f a ≡ tally f s + f (g a)
    tally_alter f g [] a e = cc
    tally_alter f g (b ∷ s) a e = go (test b) (λ h. tally_alter f g s a h) e
      where
        go : (c : Bool) → (find test s ≡ Some a → tally f (alter test g s) + f a ≡ tally f s + f (g a)) → (if c then Some b else find test s) ≡ Some a → tally f (if c then g b ∷ s else b ∷ alter test g s) + f a ≡ f b + tally f s + f (g a)
        go true ih h =
            let same : f b ≡ f a = cc in
            let same' : f (g b) ≡ f (g a) = cc in
            omega arith
        go false ih h = omega (arith, ih h)

    pub tally_alter_same : (f : A → ℕ) (g : A → A) → ((a : A) → f (g a) ≡ f a) → (s : List A) → tally f (alter test g s) ≡ tally f s
    tally_alter_same f g k [] = refl
    tally_alter_same f g k (b ∷ s) = go (test b) (tally_alter_same f g k s)
      where
        go : (c : Bool) → tally f (alter test g s) ≡ tally f s → tally f (if c then g b ∷ s else b ∷ alter test g s) ≡ f b + tally f s
        go true ih = omega (arith, k b)
        go false ih = omega arith

    -- nothing found, nothing counted
    pub tally_none : (s : List A) → find test s ≡ None → tally (λ a. one (test a)) s ≡ 0
    tally_none [] e = refl
    tally_none (b ∷ s) e = go (test b) (λ h. tally_none s h) e
      where
        go : (c : Bool) → (find test s ≡ None → tally (λ a. one (test a)) s ≡ 0) → (if c then Some b else find test s) ≡ None → one c + tally (λ a. one (test a)) s ≡ 0
        go true ih h = cc
        go false ih h = omega (arith, ih h)

    -- what is counted is found
    pub tally_found : (s : List A) → 1 ≤ tally (λ a. one (test a)) s → (a : A) × (find test s ≡ Some a)
    tally_found s h = go (find test s) refl
      where
        go : (o : Option A) → find test s ≡ o → (a : A) × (find test s ≡ Some a)
        go None e = absurd (omega (arith, tally_none s e))
        go (Some a) e = (a, e)

    pub any_without : (p : A → Bool) (s : List A) → any p s ≡ false → any p (without test s) ≡ false
    any_without p [] e = refl
    any_without p (b ∷ s) e = go (test b) (p b) refl (λ h. any_without p s h) e
      where
        go : (c d : Bool) → p b ≡ d → (any p s ≡ false → any p (without test s) ≡ false) → d || any p s ≡ false → any p (if c then s else b ∷ without test s) ≡ false
        go true true q ih h = cc
        go true false q ih h = h
        go false true q ih h = cc
        go false false q ih h = rw q (ih h)

    pub any_alter : (p : A → Bool) (g : A → A) → ((a : A) → p a ≡ false → p (g a) ≡ false) → (s : List A) → any p s ≡ false → any p (alter test g s) ≡ false
    any_alter p g k [] e = refl
    any_alter p g k (b ∷ s) e = go (test b) (p b) refl (λ h. any_alter p g k s h) e
      where
        go : (c d : Bool) → p b ≡ d → (any p s ≡ false → any p (alter test g s) ≡ false) → d || any p s ≡ false → any p (if c then g b ∷ s else b ∷ alter test g s) ≡ false
        go true true q ih h = cc
        go true false q ih h = rw (k b q) h
        go false true q ih h = cc
        go false false q ih h = rw q (ih h)

    pub all_keep : (s : List A) → All (λ a. test a ≡ true) (keep test s)
    all_keep [] = tt
    all_keep (b ∷ s) = go (test b) refl (all_keep s)
      where
        go : (c : Bool) → test b ≡ c → All (λ a. test a ≡ true) (keep test s) → All (λ a. test a ≡ true) (if c then b ∷ keep test s else keep test s)
        go true t ih = (t, ih)
        go false t ih = ih

  -- one more, wherever it stands
  pub tally_insert : (less : A → A → Bool) (f : A → ℕ) (a : A) (s : List A) → tally f (insert less a s) ≡ f a + tally f s
  unfolding insert
  tally_insert less f a [] = refl
  tally_insert less f a (b ∷ s) = go (less a b) (tally_insert less f a s)
    where
      go : (c : Bool) → tally f (insert less a s) ≡ f a + tally f s → tally f (if c then a ∷ b ∷ s else b ∷ insert less a s) ≡ f a + (f b + tally f s)
      go true ih = refl
      go false ih = omega arith
