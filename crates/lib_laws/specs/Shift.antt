-- A list overwritten from the front: `blend k ys xs` has its first k elements from ys and the others from xs.
-- What a removal, an insertion and a push do to the places of a map is a blend towards `erase at xs`, `insert at e xs`.
use Prim.Native.Nat.{ℕ, zero, suc, ◌+◌, ◌-◌, ◌≤◌, ◌<◌}
use Rattle.std.specs.Prelude.{◌≡◌, set, replicate}
use Rattle.std.proofs.Math.Path.{refl, sym, ap}
use Rattle.std.proofs.Common.{◌∙◌, not-suc-le-zero, le_of_suc-le-suc, arith, get_or-take, drop-drop, drop-set-lt, take-suc-set, length-take-le, length-append, length-drop, length-set}
use mathlib.Core.List.{List, [], ◌∷◌, ◌++◌, map, map-append}
use Rattle.std.proofs.Math.Numerals.{add-one}
use Rattle.std.proofs.Math.Seq.{take-set-lt, take_at, drop_at}
use Rattle.std.proofs.lemmas.List.{take-set-le, length-map}
use Rattle.rules.specs.Base.{All}
use Rattle.std.proofs.Math.ListN.{length, take, drop, get_or, length-take, get_or-map}

unfoldable pub erase {ℓ} : {A : Type ℓ} → ℕ → List A → List A
erase i xs = take i xs ++ drop (i + 1) xs

unfoldable pub insert {ℓ} : {A : Type ℓ} → ℕ → A → List A → List A
insert i e xs = take i xs ++ e ∷ drop i xs

unfoldable pub blend {ℓ} : {A : Type ℓ} → ℕ → List A → List A → List A
blend k ys xs = take k ys ++ drop k xs

module _ {A : Type 0} where
  pub blend_more : (k : ℕ) (ys xs : List A) (d : A) → k < length ys → k < length xs → set (blend k ys xs) k (get_or ys k d) ≡ blend (suc k) ys xs
  unfolding blend
  blend_more k [] xs d p q = absurd (not-suc-le-zero p)
  blend_more k (y ∷ ys) [] d p q = absurd (not-suc-le-zero q)
  blend_more zero (y ∷ ys) (x ∷ xs) d p q = refl
  blend_more (suc k) (y ∷ ys) (x ∷ xs) d p q = ap (λ (t : List A). y ∷ t) (blend_more k ys xs d (le_of_suc-le-suc p) (le_of_suc-le-suc q))

  pub take_blend : (k : ℕ) (ys xs : List A) → k ≤ length ys → take k (blend k ys xs) ≡ take k ys
  unfolding blend
  take_blend k ys xs p = take_at (take k ys) (drop k xs) k (length-take-le k ys p)

  pub drop_blend : (k : ℕ) (ys xs : List A) → k ≤ length ys → drop k (blend k ys xs) ≡ drop k xs
  unfolding blend
  drop_blend k ys xs p = drop_at (take k ys) (drop k xs) k (length-take-le k ys p)

  pub length_blend : (k : ℕ) (ys xs : List A) → k ≤ length ys → k ≤ length xs → length (blend k ys xs) ≡ length xs
  unfolding blend
  length_blend k ys xs p q = simp (length-append, length-take, length-drop) (omega arith)

  -- ---- erase
  pub length_erase : (i : ℕ) (xs : List A) → i < length xs → length (erase i xs) ≡ length xs - 1
  unfolding erase
  length_erase i xs p = simp (length-append, length-take, length-drop) (omega arith)

  -- what is left of the first k + 1 elements, once the last turn is made and the last place is cleared
  pub take_erase : (i k : ℕ) (xs : List A) → i ≤ k → k < length xs → take k (erase i xs) ≡ erase i (take (suc k) xs)
  unfolding erase
  take_erase i k xs p q = rw add-one (go i k xs p q)
    where
      go : (i k : ℕ) (xs : List A) → i ≤ k → k < length xs → take k (take i xs ++ drop (suc i) xs) ≡ take i (take (suc k) xs) ++ drop (suc i) (take (suc k) xs)
      go i k [] p q = absurd (not-suc-le-zero q)
      go zero k (x ∷ xs) p q = refl
      go (suc i) zero (x ∷ xs) p q = absurd (not-suc-le-zero p)
      go (suc i) (suc k) (x ∷ xs) p q = ap (λ (t : List A). x ∷ t) (go i k xs (le_of_suc-le-suc p) (le_of_suc-le-suc q))

  -- ---- insert
  pub length_insert : (i : ℕ) (e : A) (xs : List A) → i ≤ length xs → length (insert i e xs) ≡ length xs + 1
  unfolding insert
  length_insert i e xs p = simp (length-append, length-take, length-drop) (omega arith)

  pub take_insert : (i k : ℕ) (e : A) (xs : List A) → i ≤ k → k ≤ length xs → take (suc k) (insert i e xs) ≡ insert i e (take k xs)
  unfolding insert
  take_insert zero k e xs p q = refl
  take_insert (suc i) zero e xs p q = absurd (not-suc-le-zero p)
  take_insert (suc i) (suc k) e [] p q = absurd (not-suc-le-zero q)
  take_insert (suc i) (suc k) e (x ∷ xs) p q = ap (λ (t : List A). x ∷ t) (take_insert i k e xs (le_of_suc-le-suc p) (le_of_suc-le-suc q))

  blend_tail : (k j : ℕ) (ys xs : List A) → k ≤ j → k ≤ length ys → k ≤ length xs → drop j (blend k ys xs) ≡ drop j xs
  unfolding blend
  blend_tail zero j ys xs p q r = refl
  blend_tail (suc k) zero ys xs p q r = absurd (not-suc-le-zero p)
  blend_tail (suc k) (suc j) [] xs p q r = absurd (not-suc-le-zero q)
  blend_tail (suc k) (suc j) (y ∷ ys) [] p q r = absurd (not-suc-le-zero r)
  blend_tail (suc k) (suc j) (y ∷ ys) (x ∷ xs) p q r = blend_tail k j ys xs (le_of_suc-le-suc p) (le_of_suc-le-suc q) (le_of_suc-le-suc r)

  pub drop_set : (k : ℕ) (xs : List A) (v : A) → k < length xs → drop k (set xs k v) ≡ v ∷ drop (suc k) xs
  drop_set k [] v p = absurd (not-suc-le-zero p)
  drop_set zero (x ∷ xs) v p = refl
  drop_set (suc k) (x ∷ xs) v p = drop_set k xs v (le_of_suc-le-suc p)

  -- ---- each element
  module _ (P : A → Type 0) where
    pub all_set : (xs : List A) (i : ℕ) (v : A) → All P xs → P v → All P (set xs i v)
    all_set [] i v a p = a
    all_set (x ∷ xs) zero v a p = (p, a.1)
    all_set (x ∷ xs) (suc i) v a p = (a.0, all_set xs i v a.1 p)

    pub all_at : (xs : List A) (i : ℕ) (d : A) → All P xs → i < length xs → P (get_or xs i d)
    all_at [] i d a p = absurd (not-suc-le-zero p)
    all_at (x ∷ xs) zero d a p = a.0
    all_at (x ∷ xs) (suc i) d a p = all_at xs i d a.1 (le_of_suc-le-suc p)

    pub all_take : (n : ℕ) (xs : List A) → All P xs → All P (take n xs)
    all_take zero xs a = tt
    all_take (suc n) [] a = tt
    all_take (suc n) (x ∷ xs) a = (a.0, all_take n xs a.1)

    pub all_drop : (n : ℕ) (xs : List A) → All P xs → All P (drop n xs)
    all_drop zero xs a = a
    all_drop (suc n) [] a = tt
    all_drop (suc n) (x ∷ xs) a = all_drop n xs a.1

    pub all_append : (xs ys : List A) → All P xs → All P ys → All P (xs ++ ys)
    all_append [] ys a b = b
    all_append (x ∷ xs) ys a b = (a.0, all_append xs ys a.1 b)

    pub all_replicate : (n : ℕ) (v : A) → P v → All P (replicate n v)
    all_replicate zero v p = tt
    all_replicate (suc n) v p = (p, all_replicate n v p)

    all_erase : (i : ℕ) (xs : List A) → All P xs → All P (erase i xs)
    unfolding erase
    all_erase i xs a = all_append (take i xs) (drop (i + 1) xs) (all_take i xs a) (all_drop (i + 1) xs a)

    pub all_insert : (i : ℕ) (e : A) (xs : List A) → All P xs → P e → All P (insert i e xs)
    unfolding insert
    all_insert i e xs a p = all_append (take i xs) (e ∷ drop i xs) (all_take i xs a) (p, all_drop i xs a)

    pub all_blend : (k : ℕ) (ys xs : List A) → All P ys → All P xs → All P (blend k ys xs)
    unfolding blend
    all_blend k ys xs a b = all_append (take k ys) (drop k xs) (all_take k ys a) (all_drop k xs b)

-- ---- a map of at most `cap` places: what is kept of its length and its places. P holds of each place, and those past the length are b
pub record Kept {A : Type 0} (P : A → Type 0) (b : A) (cap len : ℕ) (ps : List A) : Type 0 where
  pub small : len ≤ cap
  pub size : length ps ≡ cap
  pub rest : drop len ps ≡ replicate (cap - len) b
  pub each : All P ps

pub get_d_any : {A : Type 0} (xs : List A) (i : ℕ) (d d' : A) → i < length xs → get_or xs i d ≡ get_or xs i d'
get_d_any [] i d d' p = absurd (not-suc-le-zero p)
get_d_any (x ∷ xs) zero d d' p = refl
get_d_any (x ∷ xs) (suc i) d d' p = get_d_any xs i d d' (le_of_suc-le-suc p)

pub map_take : {A B : Type 0} (f : A → B) (n : ℕ) (xs : List A) → map f (take n xs) ≡ take n (map f xs)
map_take f zero xs = refl
map_take f (suc n) [] = refl
map_take {B = B} f (suc n) (x ∷ xs) = ap (λ (t : List B). f x ∷ t) (map_take f n xs)

map_drop : {A B : Type 0} (f : A → B) (n : ℕ) (xs : List A) → map f (drop n xs) ≡ drop n (map f xs)
map_drop f zero xs = refl
map_drop f (suc n) [] = refl
map_drop f (suc n) (x ∷ xs) = map_drop f n xs

pub map_erase : {A B : Type 0} (f : A → B) (i : ℕ) (xs : List A) → map f (erase i xs) ≡ erase i (map f xs)
unfolding erase
map_erase f i xs = simp (map-append, map_take, map_drop)

pub map_insert : {A B : Type 0} (f : A → B) (i : ℕ) (e : A) (xs : List A) → map f (insert i e xs) ≡ insert i (f e) (map f xs)
unfolding insert
map_insert f i e xs = simp (map-append, map_take, map_drop)

module _ {A B : Type 0} (f : A → B) {P : A → Type 0} {b : A} {cap : ℕ} {ps : List A} where
  -- the places after a removal of place i, and what they show
  pub gone : (k : ℕ) → Kept P b cap (suc k) ps → (i : ℕ) → i ≤ k → P b
      → Kept P b cap k (set (blend k (erase i ps) ps) k b) × (map f (take k (set (blend k (erase i ps) ps) k b)) ≡ erase i (map f (take (suc k) ps)))
  gone k kept i h pb =
      let s : length ps ≡ cap = kept.size in
      let n : length (erase i ps) ≡ length ps - 1 = length_erase i ps (omega arith) in
      let m : length (blend k (erase i ps) ps) ≡ cap = length_blend k (erase i ps) ps (omega arith) (omega arith) ∙ s in
      let c : cap - k ≡ suc (cap - suc k) = omega arith in (
        record {
          small = omega arith;
          size = simp length-set m;
          rest =
              rw (drop_set k (blend k (erase i ps) ps) b (omega arith), blend_tail k (suc k) (erase i ps) ps (omega arith) (omega arith) (omega arith), c)
              (ap (λ (t : List A). b ∷ t) kept.rest);
          each = all_set P (blend k (erase i ps) ps) k b (all_blend P k (erase i ps) ps (all_erase P i ps kept.each) kept.each) pb;
        },
        rw (take-set-le k (blend k (erase i ps) ps) k b (omega arith), take_blend k (erase i ps) ps (omega arith), take_erase i k ps h (omega arith)) (map_erase f i (take (suc k) ps)),
      )

pub rest_more : {A : Type 0} (k n : ℕ) (ps : List A) (b : A) → drop k ps ≡ replicate n b → 0 < n → drop (k + 1) ps ≡ replicate (n - 1) b
rest_more k zero ps b e p = absurd (not-suc-le-zero p)
rest_more k (suc n) ps b e p =
    let z : suc n - 1 ≡ n = omega arith in
    rw (← drop-drop 1 k ps, e, z)

module _ {A B : Type 0} (f : A → B) {P : A → Type 0} {b : A} {cap : ℕ} {ps : List A} where
  -- the places after a push, and what they show
  pub pushed : (len : ℕ) (e : A) → Kept P b cap len ps → P e → len < cap
      → Kept P b cap (len + 1) (set ps len e) × (map f (take (len + 1) (set ps len e)) ≡ map f (take len ps) ++ (f e ∷ []))
  pushed len e kept pe h =
      let s : length ps ≡ cap = kept.size in
      let c : cap - (len + 1) ≡ (cap - len) - 1 = omega arith in (
        record {
          small = omega arith;
          size = simp length-set s;
          rest = rw (drop-set-lt (len + 1) ps len e (omega arith), c) (rest_more len (cap - len) ps b kept.rest (omega arith));
          each = all_set P ps len e kept.each pe;
        },
        rw (add-one, take-suc-set ps len e (omega arith), map-append),
      )

pub map_set : {A B : Type 0} (f : A → B) (xs : List A) (i : ℕ) (v : A) → map f (set xs i v) ≡ set (map f xs) i (f v)
map_set f [] i v = refl
map_set f (x ∷ xs) zero v = refl
map_set {B = B} f (x ∷ xs) (suc i) v = ap (λ (t : List B). f x ∷ t) (map_set f xs i v)

module _ {A B : Type 0} (f : A → B) {P : A → Type 0} {b : A} {cap : ℕ} {ps : List A} where
  -- the places after an element is replaced, and what they show
  pub replaced : {len : ℕ} (i : ℕ) (e : A) → Kept P b cap len ps → P e → i < len
      → Kept P b cap len (set ps i e) × (map f (take len (set ps i e)) ≡ set (map f (take len ps)) i (f e))
  replaced {len} i e kept pe h = (
    record {
      small = kept.small;
      size = simp length-set kept.size;
      rest = rw (drop-set-lt len ps i e h) kept.rest;
      each = all_set P ps i e kept.each pe;
    },
    rw (take-set-lt len ps i e h) (map_set f (take len ps) i e),
  )

  -- what an element shows
  pub shown : {len : ℕ} (i : ℕ) (d : A) (d' : B) → Kept P b cap len ps → i < len → f (get_or ps i d) ≡ get_or (map f (take len ps)) i d'
  shown {len} i d d' kept h =
      sym (get_d_any (map f (take len ps)) i d' (f d) (simp (length-map, length-take) (omega arith)) ∙ get_or-map f (take len ps) i d ∙ ap f (get_or-take len ps i d h))

  -- the places after an element is changed by what shows as g
  pub changed : {len : ℕ} (g : B → B) (i : ℕ) (e d : A) (d' : B) → Kept P b cap len ps → i < len → P e → f e ≡ g (f (get_or ps i d))
      → Kept P b cap len (set ps i e) × (map f (take len (set ps i e)) ≡ set (map f (take len ps)) i (g (get_or (map f (take len ps)) i d')))
  changed {len} g i e d d' kept h pe q =
      let r = replaced i e kept pe h in
      (r.0, r.1 ∙ ap (λ (x : B). set (map f (take len ps)) i x) (q ∙ ap g (shown i d d' kept h)))

  pub fit_at : {len : ℕ} (i : ℕ) (d : A) → Kept P b cap len ps → i < len → P (get_or ps i d)
  fit_at i d kept h = all_at P ps i d kept.each (omega arith)
