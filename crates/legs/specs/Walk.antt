-- Loops over the legs, as chains over their places: a search, the count of the answers, the earliest wake.
use Rattle.std.specs.Prelude.{◌≡◌, refl, Bool, true, false, map, ℕ, zero, suc, ◌+◌, ◌<◌, min, length, drop, get_or, ltb, cond, if◌then◌else◌, None, Option, Some, option_map, unwrap_or}
use Rattle.std.specs.List.{find, filter, fold, reduce, range_with_len}
use Rattle.std.proofs.Common.{◌∙◌, ap, add-one, drop-cons, drop_of_length-le}
use borrow.Author.Tests.{ltb-true, ltb-false}
use mathlib.Core.List.{List, [], ◌∷◌}
use native.Mathlib.Omega.{arith}
use Rattle.rules.specs.Base.{option, Bytes, keep}
use Rattle.rules.specs.Data.{Leg}
use Rattle.rules.specs.Legs.{wake, next_wake}
use Rattle.lib_laws.specs.Scan.{scan, length_shows}
use Rattle.lib_laws.specs.Chunk.{chunks}
use Rattle.legs_entry.specs.View.{leg_of, view_legs, FitLegs, leg_count}
use Rattle.legs_entry.specs.Layout.{leg_cap, leg_width}

pub count_is : {s : Bytes} → FitLegs s → length (view_legs s) ≡ leg_count s
count_is {s} f = length_shows leg_of (leg_count s) (chunks leg_width leg_cap s) (omega arith)

-- ---- the n places of a list from the k-th on
module _ {A : Type 0} (xs : List A) (d : A) where
  place : (k : ℕ) → k < length xs → drop k xs ≡ get_or xs k d ∷ drop (k + 1) xs
  place k h = drop-cons xs k d h ∙ rw add-one

  ends : (k : ℕ) → k + 0 ≡ length xs → drop k xs ≡ []
  ends k e = drop_of_length-le xs {i = k} (omega arith)

  pub places_map : {B : Type 0} (f : A → B) (n k : ℕ) → k + n ≡ length xs → map (λ i. f (get_or xs i d)) (range_with_len k n) ≡ map f (drop k xs)
  places_map f zero k e = rw (ends k e)
  places_map f (suc n) k e = rw (place k (omega arith), places_map f n (k + 1) (omega arith))

  pub places_find : (t : A → Bool) (n k : ℕ) → k + n ≡ length xs → find (λ i. t (get_or xs i d)) (range_with_len k n) ≡ scan t k (drop k xs)
  unfolding scan
  places_find t zero k e = rw (ends k e)
  places_find t (suc n) k e = rw (place k (omega arith), places_find t n (k + 1) (omega arith), add-one) (go (t (get_or xs k d)) _)
    where
      go : (b : Bool) (o : Option ℕ) → cond b (Some k) o ≡ (if b then Some k else o)
      go true o = refl
      go false o = refl

  pub places_keep : (t : A → Bool) (n k : ℕ) → k + n ≡ length xs → length (filter (λ i. t (get_or xs i d)) (range_with_len k n)) ≡ length (keep t (drop k xs))
  places_keep t zero k e = rw (ends k e)
  places_keep t (suc n) k e = rw (place k (omega arith)) (go (t (get_or xs k d)) _ _ (places_keep t n (k + 1) (omega arith)))
    where
      go : (b : Bool) (is : List ℕ) (ys : List A) → length is ≡ length ys → length (cond b (k ∷ is) is) ≡ length (if b then get_or xs k d ∷ ys else ys)
      go true is ys e = ap suc e
      go false is ys e = e

-- ---- when a leg needs a poll
pub wake_is : (g : Leg) {o : Option ℕ} {d a : ℕ} → o ≡ g.next → d ≡ g.deadline → a ≡ unwrap_or o d → min a d ≡ wake g
unfolding wake
wake_is g {o} {d} {a} e q z = rw (z, e, q) (go g.next)
  where
    go : (o : Option ℕ) → min (unwrap_or o g.deadline) g.deadline ≡ option o g.deadline (λ n. if ltb n g.deadline then n else g.deadline)
    go None = omega arith
    go (Some n) = least n g.deadline (ltb n g.deadline) refl
      where
        least : (n d : ℕ) (b : Bool) → ltb n d ≡ b → min n d ≡ (if b then n else d)
        least n d true e = let l = ltb-true n d e in omega arith
        least n d false e = let l = ltb-false n d e in omega arith

-- ---- the earliest wake, as the least of a list
fold_min : (a : ℕ) (s : List Leg) → fold min a (map wake s) ≡ option (next_wake s) a (min a)
unfolding next_wake
fold_min a [] = refl
fold_min a (g ∷ s) = fold_min (min a (wake g)) s ∙ go (next_wake s)
  where
    go : (o : Option ℕ) → option o (min a (wake g)) (min (min a (wake g))) ≡ min a (option o (wake g) (min (wake g)))
    go None = refl
    go (Some n) = omega arith

pub wakes_min : (s : List Leg) → reduce min (map wake s) ≡ next_wake s
unfolding next_wake
wakes_min [] = refl
wakes_min (g ∷ s) = ap Some (fold_min (wake g) s)

pub given_back : {A : Type 0} {x y : Option A} → option_map (λ a. a) x ≡ y → x ≡ y
given_back {x = None} e = e
given_back {x = Some a} e = e
