-- The first element of a list that passes a test: `scan t i xs` is its place, counted from i.
-- A loop that looks for it keeps the equation "the answer is the answer of what is left": scan t 0 xs ≡ scan t i (drop i xs).
use Rattle.std.specs.Prelude.{ℕ, suc, ◌+◌, ◌≤◌, ◌<◌, ◌≡◌, refl, Bool, true, false, List, [], ◌∷◌, map, eqb, length, take, drop, get_or, if◌then◌else◌, None, Option, Some}
use Rattle.std.proofs.Common.{◌∙◌, add-one, arith, rules, eq-eqb, ne_eqb, drop-cons, get_or-take, drop_of_length-le, length-take}
use Rattle.lib_laws.specs.Shift.{Kept}
use Rattle.std.proofs.lemmas.List.{length-map}
use Rattle.std.proofs.Math.ListN.{get_or-map}

unfoldable pub scan {ℓ} : {A : Type ℓ} → (A → Bool) → ℕ → List A → Option ℕ
scan t i [] = None
scan t i (x ∷ xs) = if t x then Some i else scan t (suc i) xs

-- over what a map's first n places show
module _ {A B : Type 0} (f : A → B) where
  pub length_shows : (n : ℕ) (ps : List A) → n ≤ length ps → length (map f (take n ps)) ≡ n
  length_shows n ps h = simp (length-map, length-take) (omega arith)

  pub shows_cons : (n : ℕ) (ps : List A) (i : ℕ) (d : A) → n ≤ length ps → i < n → drop i (map f (take n ps)) ≡ f (get_or ps i d) ∷ drop (suc i) (map f (take n ps))
  shows_cons n ps i d h p =
      drop-cons (map f (take n ps)) i (f d) (rw (length_shows n ps h) p) ∙ rw (get_or-map f (take n ps) i d, get_or-take n ps i d p)

-- the invariant of a loop that scans the first n of the places ps and stands at i: o is the answer. It is a record, so that the laws find their arguments in its type
pub record Ahead {A B : Type 0} (o : Option ℕ) (t : B → Bool) (f : A → B) (n : ℕ) (ps : List A) (i : ℕ) : Type 0 where
  pub within : i ≤ n
  pub room : n ≤ length ps
  pub left : o ≡ scan t i (drop i (map f (take n ps)))

pub scan_start : {A B : Type 0} (t : B → Bool) (f : A → B) (n : ℕ) (ps : List A) → n ≤ length ps → Ahead (scan t 0 (map f (take n ps))) t f n ps 0
scan_start t f n ps h = record { within = omega arith; room = h; left = refl }

module _ {A B : Type 0} {o : Option ℕ} {t : B → Bool} {f : A → B} {n : ℕ} {ps : List A} {i : ℕ} (a : Ahead o t f n ps i) where
  pub scan_hit : (d : A) → i < n → t (f (get_or ps i d)) ≡ true → o ≡ Some i
  unfolding scan
  scan_hit d p q = a.left ∙ rw (shows_cons f n ps i d a.room p, q)

  pub scan_skip : (d : A) → i < n → t (f (get_or ps i d)) ≡ false → Ahead o t f n ps (i + 1)
  unfolding scan
  scan_skip d p q = record { within = omega arith; room = a.room; left = a.left ∙ rw (shows_cons f n ps i d a.room p, q, add-one) }

  pub scan_end : n ≤ i → o ≡ None
  unfolding scan
  scan_end p = a.left ∙ rw (drop_of_length-le (map f (take n ps)) {i = i} (rw (length_shows f n ps a.room) p))

-- what is found lies within
scan_below : {B : Type 0} (t : B → Bool) (k : ℕ) (xs : List B) (i : ℕ) → scan t k xs ≡ Some i → i < k + length xs
unfolding scan
scan_below t k [] i e = let z : ◌≡◌ {A = ℕ} 0 1 = cc in absurd (omega arith)
scan_below t k (x ∷ xs) i e = go (t x) e (scan_below t (suc k) xs i)
  where
    go : (b : Bool) → (if b then Some k else scan t (suc k) xs) ≡ Some i → (scan t (suc k) xs ≡ Some i → i < suc k + length xs) → i < k + suc (length xs)
    go true e r = let q : k ≡ i = cc in omega arith
    go false e r = let l = r e in omega arith

pub scan_within : {A B : Type 0} (t : B → Bool) (f : A → B) (n : ℕ) (ps : List A) (i : ℕ) → n ≤ length ps → scan t 0 (map f (take n ps)) ≡ Some i → i < n
scan_within t f n ps i h e = let l = scan_below t 0 (map f (take n ps)) i e in omega (arith, length_shows f n ps h)

-- the start over a map's places
pub scan_kept : {A B : Type 0} {P : A → Type 0} {b : A} {cap n : ℕ} {ps : List A} (t : B → Bool) (f : A → B) → Kept P b cap n ps → Ahead (scan t 0 (map f (take n ps))) t f n ps 0
scan_kept {n = n} {ps} t f kept = scan_start t f n ps (omega arith)

pub kept_within : {A B : Type 0} {P : A → Type 0} {b : A} {cap n i : ℕ} {ps : List A} (t : B → Bool) (f : A → B) → Kept P b cap n ps → scan t 0 (map f (take n ps)) ≡ Some i → i < n
kept_within {n = n} {i} {ps} t f kept e = scan_within t f n ps i (omega arith) e

-- ---- a search by a number: `search keying` proves the whole loop
abbrev pub key_is : {B : Type 0} → (B → ℕ) → ℕ → B → Bool
key_is key k e = eqb (key e) k

pub record Keyed {A B : Type 0} (o : Option ℕ) (key : B → ℕ) (k : ℕ) (f : A → B) (n : ℕ) (ps : List A) (i : ℕ) : Type 0 where
  pub ahead : Ahead o (key_is key k) f n ps i

pub keyed_start : {A B : Type 0} {P : A → Type 0} {b : A} {cap n : ℕ} {ps : List A} (key : B → ℕ) (k : ℕ) (f : A → B)
    → Kept P b cap n ps → Keyed (scan (key_is key k) 0 (map f (take n ps))) key k f n ps 0
keyed_start {n = n} {ps} key k f kept = record { ahead = scan_start (key_is key k) f n ps (omega arith) }

module _ {A B : Type 0} {o : Option ℕ} {key : B → ℕ} {k : ℕ} {f : A → B} {n : ℕ} {ps : List A} {i : ℕ} (a : Keyed o key k f n ps i) where
  pub keyed_hit : (d : A) → i < n → key (f (get_or ps i d)) ≡ k → o ≡ Some i
  keyed_hit d p e = scan_hit a.ahead d p (eq-eqb (key (f (get_or ps i d))) k e)

  pub keyed_skip : (d : A) → i < n → (key (f (get_or ps i d)) ≡ k → ⊥) → Keyed o key k f n ps (i + 1)
  keyed_skip d p e = record { ahead = scan_skip a.ahead d p (ne_eqb (key (f (get_or ps i d))) k e) }

  pub keyed_end : n ≤ i → o ≡ None
  keyed_end p = scan_end a.ahead p

pub ruleset keying = (rules, keyed_start, keyed_hit, keyed_skip, keyed_end)
