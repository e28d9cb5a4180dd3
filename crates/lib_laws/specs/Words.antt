-- Runs of bytes compared by the numbers that they spell.
use Rattle.std.specs.Prelude.{ℕ, zero, suc, ◌+◌, ◌*◌, ◌≤◌, ◌<◌, ◌≡◌, refl, Bool, true, false, ◌&&◌, List, [], ◌∷◌, ◌++◌, eqb, ltb, length, take, drop, get_or, if◌then◌else◌}
use Rattle.std.proofs.Common.{sym, ◌∙◌, arith, eq-eqb, ne_eqb, lt-ltb, le-ltb, eqb-true, ltb-true, ltb-false, Fits, drop-drop, take-add, length-take-le, length-drop}
use Rattle.std.proofs.lemmas.Bool.{eqb-false}
use Rattle.std.specs.Int.{w8}
use Rattle.rules.specs.Base.{same, All}
use Rattle.rules.specs.Std.{before}
use Rattle.rules.specs.Field.{more}

-- each element is a byte
abbrev pub Octets : List ℕ → Type 0
Octets xs = All (λ (x : ℕ). x < 256) xs

all_known : (xs : List ℕ) → ((i : ℕ) → Fits w8 (get_or xs i 0)) → Octets xs
all_known [] f = tt
all_known (x ∷ xs) f = ((f 0).fits, all_known xs (λ i. f (suc i)))

pub octets_take : (n : ℕ) (xs : List ℕ) → Octets xs → Octets (take n xs)
octets_take zero xs a = tt
octets_take (suc n) [] a = tt
octets_take (suc n) (x ∷ xs) a = (a.0, octets_take n xs a.1)

octets_drop : (n : ℕ) (xs : List ℕ) → Octets xs → Octets (drop n xs)
octets_drop zero xs a = a
octets_drop (suc n) [] a = tt
octets_drop (suc n) (x ∷ xs) a = octets_drop n xs a.1

-- a run of a slice
pub octets_run : (n at : ℕ) (s : List ℕ) → ((i : ℕ) → Fits w8 (get_or s i 0)) → Octets (take n (drop at s))
octets_run n at s f = octets_take n (drop at s) (octets_drop at s (all_known s f))

ne_lt : (x y : ℕ) → x ≤ y → (x ≡ y → ⊥) → x < y
ne_lt x y h d = go (ltb x y) refl
  where
    go : (c : Bool) → ltb x y ≡ c → x < y
    go true q = ltb-true x y q
    go false q = absurd (d (let k : y ≤ x = ltb-false x y q in omega arith))

-- ---- runs of one length compare as their numbers do
more_less : (v w : ℕ) (xs ys : List ℕ) → v < w → Octets xs → Octets ys → length xs ≡ length ys → more v xs < more w ys
unfolding more
more_less v w [] [] h a b e = h
more_less v w [] (y ∷ ys) h a b e = absurd (omega arith)
more_less v w (x ∷ xs) [] h a b e = absurd (omega arith)
more_less v w (x ∷ xs) (y ∷ ys) h a b e = let p : x < 256 = a.0 in more_less (v * 256 + x) (w * 256 + y) xs ys (omega arith) a.1 b.1 (omega arith)

module _ (v x y : ℕ) (xs ys : List ℕ) (a : Octets (x ∷ xs)) (b : Octets (y ∷ ys)) (e : length xs ≡ length ys) where
  less : x < y → more (v * 256 + x) xs < more (v * 256 + y) ys
  less h = more_less (v * 256 + x) (v * 256 + y) xs ys (omega arith) a.1 b.1 e

  apart : (x ≡ y → ⊥) → more (v * 256 + x) xs ≡ more (v * 256 + y) ys → ⊥
  apart d q = go (ltb x y) refl
    where
      go : (c : Bool) → ltb x y ≡ c → ⊥
      go true h = let z = less (ltb-true x y h) in omega arith
      go false h =
          let k : y ≤ x = ltb-false x y h in
          let l : y < x = strict k in
          let z = more_less (v * 256 + y) (v * 256 + x) ys xs (omega arith) b.1 a.1 (sym e) in
          omega arith
        where
          strict : y ≤ x → y < x
          strict k = ne_lt y x k (λ q. d (sym q))

pub number_same : (v : ℕ) (xs ys : List ℕ) → Octets xs → Octets ys → length xs ≡ length ys → same xs ys ≡ eqb (more v xs) (more v ys)
unfolding more
number_same v [] [] a b e = sym (eq-eqb v v refl)
number_same v [] (y ∷ ys) a b e = absurd (omega arith)
number_same v (x ∷ xs) [] a b e = absurd (omega arith)
number_same v (x ∷ xs) (y ∷ ys) a b e = go (eqb x y) refl (λ w. number_same w xs ys a.1 b.1 (omega arith))
  where
    go : (c : Bool) → eqb x y ≡ c → ((w : ℕ) → same xs ys ≡ eqb (more w xs) (more w ys)) → (c && same xs ys) ≡ eqb (more (v * 256 + x) xs) (more (v * 256 + y) ys)
    go true q r = rw (← eqb-true x y q) (r (v * 256 + x))
    go false q r = sym (ne_eqb (more (v * 256 + x) xs) (more (v * 256 + y) ys) (apart v x y xs ys a b (omega arith) (eqb-false x y q)))

pub number_order : (v : ℕ) (xs ys : List ℕ) → Octets xs → Octets ys → length xs ≡ length ys → before xs ys ≡ ltb (more v xs) (more v ys)
unfolding more
number_order v [] [] a b e = sym (le-ltb v v (omega arith))
number_order v [] (y ∷ ys) a b e = absurd (omega arith)
number_order v (x ∷ xs) [] a b e = absurd (omega arith)
number_order v (x ∷ xs) (y ∷ ys) a b e = go (eqb x y) refl (λ w. number_order w xs ys a.1 b.1 (omega arith))
  where
    far : (c : Bool) → ltb x y ≡ c → (x ≡ y → ⊥) → c ≡ ltb (more (v * 256 + x) xs) (more (v * 256 + y) ys)
    far true q d = sym (lt-ltb (more (v * 256 + x) xs) (more (v * 256 + y) ys) (less v x y xs ys a b (omega arith) (ltb-true x y q)))
    far false q d =
        let l : y < x = ne_lt y x (ltb-false x y q) (λ r. d (sym r)) in
        let z = less v y x ys xs b a (omega arith) l in
        sym (le-ltb (more (v * 256 + x) xs) (more (v * 256 + y) ys) (omega arith))

    go : (c : Bool) → eqb x y ≡ c → ((w : ℕ) → before xs ys ≡ ltb (more w xs) (more w ys)) → (if c then before xs ys else ltb x y) ≡ ltb (more (v * 256 + x) xs) (more (v * 256 + y) ys)
    go true q r = rw (← eqb-true x y q) (r (v * 256 + x))
    go false q r = far (ltb x y) refl (eqb-false x y q)

-- ---- runs in two parts
pub same_append : (xs ys us vs : List ℕ) → length xs ≡ length ys → same (xs ++ us) (ys ++ vs) ≡ (same xs ys && same us vs)
same_append [] [] us vs e = refl
same_append [] (b ∷ ys) us vs e = absurd (omega arith)
same_append (a ∷ xs) [] us vs e = absurd (omega arith)
same_append (a ∷ xs) (b ∷ ys) us vs e = go (eqb a b) (same_append xs ys us vs (omega arith))
  where
    go : (c : Bool) → same (xs ++ us) (ys ++ vs) ≡ (same xs ys && same us vs) → (c && same (xs ++ us) (ys ++ vs)) ≡ ((c && same xs ys) && same us vs)
    go true r = r
    go false r = refl

-- at places of two slices
pub same_runs : (k m : ℕ) (s : List ℕ) (at : ℕ) (t : List ℕ) (from : ℕ) → at + k ≤ length s → from + k ≤ length t
    → same (take (k + m) (drop at s)) (take (k + m) (drop from t)) ≡ (same (take k (drop at s)) (take k (drop from t)) && same (take m (drop (at + k) s)) (take m (drop (from + k) t)))
same_runs k m s at t from h g =
    let x : length (take k (drop at s)) ≡ k = length-take-le k (drop at s) (rw length-drop (omega arith)) in
    let y : length (take k (drop from t)) ≡ k = length-take-le k (drop from t) (rw length-drop (omega arith)) in
    rw (take-add k m (drop at s), take-add k m (drop from t), drop-drop k at s, drop-drop k from t) (
    same_append (take k (drop at s)) (take k (drop from t)) (take m (drop (at + k) s)) (take m (drop (from + k) t)) (x ∙ sym y))

pub before_append : (xs ys us vs : List ℕ) → length xs ≡ length ys → before (xs ++ us) (ys ++ vs) ≡ (if same xs ys then before us vs else before xs ys)
before_append [] [] us vs e = refl
before_append [] (b ∷ ys) us vs e = absurd (omega arith)
before_append (a ∷ xs) [] us vs e = absurd (omega arith)
before_append (a ∷ xs) (b ∷ ys) us vs e = go (eqb a b) (before_append xs ys us vs (omega arith))
  where
    go : (c : Bool) → before (xs ++ us) (ys ++ vs) ≡ (if same xs ys then before us vs else before xs ys)
        → (if c then before (xs ++ us) (ys ++ vs) else ltb a b) ≡ (if (c && same xs ys) then before us vs else (if c then before xs ys else ltb a b))
    go true r = r
    go false r = refl

-- two runs of two words each, in their order
module _ (k : ℕ) (s : List ℕ) (at : ℕ) (t : List ℕ) (from : ℕ) (r : at + (k + k) ≤ length s) (r' : from + (k + k) ≤ length t)
    (f : (j : ℕ) → Fits w8 (get_or s j 0)) (g : (j : ℕ) → Fits w8 (get_or t j 0)) where
  two : (s : List ℕ) (at : ℕ) → take (k + k) (drop at s) ≡ take k (drop at s) ++ take k (drop (at + k) s)
  two s at = take-add k k (drop at s) ∙ rw drop-drop

  l : length (take k (drop at s)) ≡ length (take k (drop from t))
  l =
      let x : length (take k (drop at s)) ≡ k = length-take-le k (drop at s) (rw length-drop (omega arith)) in
      let y : length (take k (drop from t)) ≡ k = length-take-le k (drop from t) (rw length-drop (omega arith)) in
      omega arith

  l' : length (take k (drop (at + k) s)) ≡ length (take k (drop (from + k) t))
  l' =
      let x : length (take k (drop (at + k) s)) ≡ k = length-take-le k (drop (at + k) s) (rw length-drop (omega arith)) in
      let y : length (take k (drop (from + k) t)) ≡ k = length-take-le k (drop (from + k) t) (rw length-drop (omega arith)) in
      omega arith

  whole : before (take (k + k) (drop at s)) (take (k + k) (drop from t))
      ≡ (if eqb (more 0 (take k (drop at s))) (more 0 (take k (drop from t)))
      then ltb (more 0 (take k (drop (at + k) s))) (more 0 (take k (drop (from + k) t)))
      else ltb (more 0 (take k (drop at s))) (more 0 (take k (drop from t))))
  whole = rw (
    two s at,
    two t from,
    before_append (take k (drop at s)) (take k (drop from t)) (take k (drop (at + k) s)) (take k (drop (from + k) t)) l,
    number_same 0 (take k (drop at s)) (take k (drop from t)) (octets_run k at s f) (octets_run k from t g) l,
    number_order 0 (take k (drop at s)) (take k (drop from t)) (octets_run k at s f) (octets_run k from t g) l,
    number_order 0 (take k (drop (at + k) s)) (take k (drop (from + k) t)) (octets_run k (at + k) s f) (octets_run k (from + k) t g) l',
  )

  pub order_first : (more 0 (take k (drop at s)) ≡ more 0 (take k (drop from t)) → ⊥)
      → ltb (more 0 (take k (drop at s))) (more 0 (take k (drop from t))) ≡ before (take (k + k) (drop at s)) (take (k + k) (drop from t))
  order_first d = sym (whole ∙ rw (ne_eqb (more 0 (take k (drop at s))) (more 0 (take k (drop from t))) d))

  pub order_second : more 0 (take k (drop at s)) ≡ more 0 (take k (drop from t))
      → ltb (more 0 (take k (drop (at + k) s))) (more 0 (take k (drop (from + k) t))) ≡ before (take (k + k) (drop at s)) (take (k + k) (drop from t))
  order_second e = sym (whole ∙ rw (eq-eqb (more 0 (take k (drop at s))) (more 0 (take k (drop from t))) e))
