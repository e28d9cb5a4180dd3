-- The first element of a list of which h says something: its place, and what h says. With h a scan of the element's own list, this is a nested search.
use Rattle.std.specs.Prelude.{ℕ, suc, ◌+◌, ◌≤◌, ◌<◌, ◌≡◌, refl, List, [], ◌∷◌, map, length, take, drop, get_or, None, Option, Some}
use Rattle.std.proofs.Common.{◌∙◌, add-one, arith, drop_of_length-le}
use Rattle.lib_laws.specs.Scan.{shows_cons, length_shows}

abbrev pub or_next : {C : Type 0} → ℕ → Option C → Option (ℕ × C) → Option (ℕ × C)
or_next i None r = r
or_next i (Some c) r = Some (i, c)

unfoldable pub first : {B C : Type 0} → (B → Option C) → ℕ → List B → Option (ℕ × C)
first h i [] = None
first h i (x ∷ xs) = or_next i (h x) (first h (suc i) xs)

pub record Seeking {A B C : Type 0} (o : Option (ℕ × C)) (h : B → Option C) (f : A → B) (n : ℕ) (ps : List A) (i : ℕ) : Type 0 where
  pub within : i ≤ n
  pub room : n ≤ length ps
  pub left : o ≡ first h i (drop i (map f (take n ps)))

pub seek_start : {A B C : Type 0} (h : B → Option C) (f : A → B) (n : ℕ) (ps : List A) → n ≤ length ps → Seeking (first h 0 (map f (take n ps))) h f n ps 0
seek_start h f n ps r = record { within = omega arith; room = r; left = refl }

module _ {A B C : Type 0} {o : Option (ℕ × C)} {h : B → Option C} {f : A → B} {n : ℕ} {ps : List A} {i : ℕ} (a : Seeking o h f n ps i) where
  pub seek_hit : (d : A) {c : C} → i < n → h (f (get_or ps i d)) ≡ Some c → o ≡ Some (i, c)
  unfolding first
  seek_hit d p q = a.left ∙ rw (shows_cons f n ps i d a.room p, q)

  pub seek_skip : (d : A) → i < n → h (f (get_or ps i d)) ≡ None → Seeking o h f n ps (i + 1)
  unfolding first
  seek_skip d p q = record { within = omega arith; room = a.room; left = a.left ∙ rw (shows_cons f n ps i d a.room p, q, add-one) }

  pub seek_end : n ≤ i → o ≡ None
  unfolding first
  seek_end p = a.left ∙ rw (drop_of_length-le (map f (take n ps)) {i = i} (rw (length_shows f n ps a.room) p))
