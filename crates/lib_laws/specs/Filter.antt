-- What the library's `any` and `retain` say of a list, of what its elements show.
use Rattle.std.specs.Prelude.{◌≡◌, refl, Bool, true, false, suc, ◌≤◌, length, filter, if◌then◌else◌}
use Rattle.std.specs.List.{list_any}
use Rattle.std.proofs.Common.{arith}
use mathlib.Core.List.{List, [], ◌∷◌, map}
use Rattle.rules.specs.Base.{All, any, keep}

-- ---- in the rules' words
module _ {A B : Type 0} (t : B → Bool) (f : A → B) where
  pub any_map : (xs : List A) → list_any (λ x. t (f x)) xs ≡ any t (map f xs)
  any_map [] = refl
  any_map (x ∷ xs) = rw (any_map xs)

  pub filter_map : (xs : List A) → map f (filter (λ x. t (f x)) xs) ≡ keep t (map f xs)
  filter_map [] = refl
  filter_map (x ∷ xs) = go (t (f x)) (filter_map xs)
    where
      go : (b : Bool) → map f (filter (λ x. t (f x)) xs) ≡ keep t (map f xs)
          → map f (if b then x ∷ filter (λ x. t (f x)) xs else filter (λ x. t (f x)) xs) ≡ (if b then f x ∷ keep t (map f xs) else keep t (map f xs))
      go true e = rw e
      go false e = e

-- ---- what retain leaves
module _ {A : Type 0} where
  pub length_filter : (t : A → Bool) (xs : List A) → length (filter t xs) ≤ length xs
  length_filter t [] = omega arith
  length_filter t (x ∷ xs) = go (t x) (length_filter t xs)
    where
      go : (b : Bool) → length (filter t xs) ≤ length xs → length (if b then x ∷ filter t xs else filter t xs) ≤ suc (length xs)
      go true r = omega arith
      go false r = omega arith

module _ {A : Type 0} (P : A → Type 0) where
  pub all_filter : (t : A → Bool) (xs : List A) → All P xs → All P (filter t xs)
  all_filter t [] a = tt
  all_filter t (x ∷ xs) a = go (t x) (all_filter t xs a.1)
    where
      go : (b : Bool) → All P (filter t xs) → All P (if b then x ∷ filter t xs else filter t xs)
      go true r = (a.0, r)
      go false r = r
