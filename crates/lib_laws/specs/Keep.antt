-- A list filtered in place: what passes is moved towards the front, and the places behind it are made blank.
use Rattle.std.specs.Prelude.{ℕ, zero, suc, ◌+◌, ◌-◌, ◌≤◌, ◌<◌, ◌≡◌, refl, Bool, true, false, List, [], ◌∷◌, ◌++◌, map, length, take, drop, get_or, set, replicate, if◌then◌else◌}
use Rattle.std.proofs.Common.{sym, ap, ◌∙◌, append_assoc, append-nil, add-zero, zero-add, add-one, arith, rules, drop-drop, take-suc, take-suc-set, drop-set-lt, get_or-drop, drop-cons, length-take-le, take_at, drop_at, length-append, length-take, length-set, take-append-drop}
use Rattle.std.proofs.lemmas.List.{take-set-le, set_at, length-replicate}
use Rattle.rules.specs.Base.{keep, one, All}
use Rattle.lib_laws.specs.Shift.{Kept, all_take, all_append, all_replicate}

keep_append : {A : Type 0} (t : A → Bool) (xs ys : List A) → keep t (xs ++ ys) ≡ keep t xs ++ keep t ys
keep_append t [] ys = refl
keep_append {A} t (x ∷ xs) ys = go (t x) (keep_append t xs ys)
  where
    go : (b : Bool) → keep t (xs ++ ys) ≡ keep t xs ++ keep t ys
        → (if b then x ∷ keep t (xs ++ ys) else keep t (xs ++ ys)) ≡ (if b then x ∷ keep t xs else keep t xs) ++ keep t ys
    go true r = ap (λ (l : List A). x ∷ l) r
    go false r = r

pub keep_map : {A B : Type 0} (f : A → B) (t : B → Bool) (xs : List A) → map f (keep (λ x. t (f x)) xs) ≡ keep t (map f xs)
keep_map f t [] = refl
keep_map {A} {B} f t (x ∷ xs) = go (t (f x)) (keep_map f t xs)
  where
    go : (b : Bool) → map f (keep (λ x. t (f x)) xs) ≡ keep t (map f xs)
        → map f (if b then x ∷ keep (λ x. t (f x)) xs else keep (λ x. t (f x)) xs) ≡ (if b then f x ∷ keep t (map f xs) else keep t (map f xs))
    go true r = ap (λ (l : List B). f x ∷ l) r
    go false r = r

all_keep : {A : Type 0} (P : A → Type 0) (t : A → Bool) (xs : List A) → All P xs → All P (keep t xs)
all_keep P t [] a = tt
all_keep P t (x ∷ xs) a = go (t x) (all_keep P t xs a.1)
  where
    go : (b : Bool) → All P (keep t xs) → All P (if b then x ∷ keep t xs else keep t xs)
    go true r = (a.0, r)
    go false r = r

pub length_keep : {A : Type 0} (t : A → Bool) (xs : List A) → length (keep t xs) ≤ length xs
length_keep t [] = omega arith
length_keep t (x ∷ xs) = go (t x) (length_keep t xs)
  where
    go : (b : Bool) → length (keep t xs) ≤ length xs → length (if b then x ∷ keep t xs else keep t xs) ≤ suc (length xs)
    go true r = omega arith
    go false r = omega arith

-- ---- the loop: it stands at i of the first len places, n have passed, and l is the places now
pub record Keeping {A : Type 0} (t : A → Bool) (ps : List A) (len i n : ℕ) (l : List A) : Type 0 where
  pub within : i ≤ len
  pub below : n ≤ i
  pub room : len ≤ length ps
  pub size : length l ≡ length ps
  pub front : take n l ≡ keep t (take i ps)
  pub ahead : drop i l ≡ drop i ps

pub keeping_start : {A : Type 0} (t : A → Bool) (ps : List A) (len : ℕ) → len ≤ length ps → Keeping t ps len 0 0 ps
keeping_start t ps len h = record { within = omega arith; below = omega arith; room = h; size = refl; front = refl; ahead = refl }

module _ {A : Type 0} {t : A → Bool} {ps : List A} {len i n : ℕ} {l : List A} (a : Keeping t ps len i n l) (p : i < len) where
  same_at : (d : A) → get_or l i d ≡ get_or ps i d
  same_at d =
      let e : get_or l (i + 0) d ≡ get_or ps (i + 0) d = sym (get_or-drop i l 0 d) ∙ ap (λ (x : List A). get_or x 0 d) a.ahead ∙ get_or-drop i ps 0 d in
      rw add-zero at e

  next_front : (d : A) → keep t (take (i + 1) ps) ≡ keep t (take i ps) ++ (if t (get_or l i d) then get_or l i d ∷ [] else [])
  next_front d = rw (add-one, take-suc ps i d (omega arith), keep_append t (take i ps) (get_or ps i d ∷ []), same_at d)

  next_ahead : drop (i + 1) l ≡ drop (i + 1) ps
  next_ahead = sym (drop-drop 1 i l) ∙ ap (λ (x : List A). drop 1 x) a.ahead ∙ drop-drop 1 i ps

  -- one that passes is moved to place n
  pub keeping_yes : (d : A) → t (get_or l i d) ≡ true → Keeping t ps len (i + 1) (n + 1) (set l n (get_or l i d))
  keeping_yes d q = record {
    within = omega arith;
    below = omega arith;
    room = a.room;
    size = rw length-set a.size;
    front = sym (next_front d ∙ rw (q, add-one, take-suc-set l n (get_or l i d) (omega arith), a.front));
    ahead = drop-set-lt (i + 1) l n (get_or l i d) (omega arith) ∙ next_ahead;
  }

  -- one that does not pass is left behind
  pub keeping_no : (d : A) → t (get_or l i d) ≡ false → Keeping t ps len (i + 1) n l
  keeping_no d q = record {
    within = omega arith;
    below = omega arith;
    room = a.room;
    size = a.size;
    front = a.front ∙ sym (next_front d ∙ rw (q, append-nil));
    ahead = next_ahead;
  }

  -- both at once: the element is stored at n, and n grows by one or not
  pub keeping_turn : (d : A) (k : ℕ) → k ≡ one (t (get_or l i d)) → Keeping t ps len (i + 1) (n + k) (set l n (get_or l i d))
  keeping_turn d k e = go (t (get_or l i d)) refl e
    where
      go : (b : Bool) → t (get_or l i d) ≡ b → k ≡ one b → Keeping t ps len (i + 1) (n + k) (set l n (get_or l i d))
      go true q e = rw e (keeping_yes d q)
      go false q e =
          let z : n + 0 ≡ n = omega arith in
          rw (e, z)
          (record {
            within = omega arith;
            below = omega arith;
            room = a.room;
            size = rw length-set a.size;
            front = take-set-le n l n (get_or l i d) (omega arith) ∙ (keeping_no d q).front;
            ahead = drop-set-lt (i + 1) l n (get_or l i d) (omega arith) ∙ next_ahead;
          })

pub keeping_end : {A : Type 0} {t : A → Bool} {ps : List A} {len i n : ℕ} {l : List A} → Keeping t ps len i n l → len ≤ i → take n l ≡ keep t (take len ps)
keeping_end {len = len} {i} a p = let e : i ≡ len = omega arith in rw e at a.front

-- ---- the loop that makes the places from n to len blank, and stands at j
pub record Blanking {A : Type 0} (b : A) (ps : List A) (n len j : ℕ) (l : List A) : Type 0 where
  pub from : n ≤ j
  pub upto : j ≤ len
  pub room : len ≤ length ps
  pub size : length l ≡ length ps
  pub now : l ≡ take n ps ++ (replicate (j - n) b ++ drop j ps)

pub blanking_start : {A : Type 0} (b : A) (ps : List A) (n len : ℕ) → n ≤ len → len ≤ length ps → Blanking b ps n len n ps
blanking_start b ps n len h k =
    let z : n - n ≡ 0 = omega arith in
    record { from = omega arith; upto = h; room = k; size = refl; now = sym (rw z (take-append-drop n ps)) }

replicate_in : {A : Type 0} (k : ℕ) (b : A) (xs : List A) → replicate k b ++ b ∷ xs ≡ b ∷ (replicate k b ++ xs)
replicate_in zero b xs = refl
replicate_in {A} (suc k) b xs = ap (λ (l : List A). b ∷ l) (replicate_in k b xs)

pub blanking_turn : {A : Type 0} {b : A} {ps : List A} {n len j : ℕ} {l : List A} → Blanking b ps n len j l → j < len → Blanking b ps n len (j + 1) (set l j b)
blanking_turn {A} {b} {ps} {n} {len} {j} {l} a p =
    let m : length (take n ps ++ replicate (j - n) b) ≡ j = simp (length-append, length-take, length-replicate) (omega arith) in
    let k : j + 1 - n ≡ suc (j - n) = omega arith in
    record {
      from = omega arith;
      upto = omega arith;
      room = a.room;
      size = rw length-set a.size;
      now =
          rw (a.now, drop-cons ps j b (omega arith), ← append_assoc (take n ps) (replicate (j - n) b) (get_or ps j b ∷ drop (suc j) ps))
          (set_at (take n ps ++ replicate (j - n) b) (get_or ps j b) (drop (suc j) ps) b j m
          ∙ rw (k, add-one, append_assoc (take n ps) (replicate (j - n) b) (b ∷ drop (suc j) ps), replicate_in (j - n) b (drop (suc j) ps)));
    }

pub blanking_end : {A : Type 0} {b : A} {ps : List A} {n len j : ℕ} {l : List A} → Blanking b ps n len j l → len ≤ j → l ≡ take n ps ++ (replicate (len - n) b ++ drop len ps)
blanking_end {len = len} {j} a p = let e : j ≡ len = omega arith in rw e at a.now

-- ---- both loops: what is left of a map, and what it shows
replicate_add : {A : Type 0} (k m : ℕ) (b : A) → replicate k b ++ replicate m b ≡ replicate (k + m) b
replicate_add zero m b = rw zero-add
replicate_add {A} (suc k) m b = let e : suc k + m ≡ suc (k + m) = omega arith in rw e (ap (λ (l : List A). b ∷ l) (replicate_add k m b))

module _ {A B : Type 0} (f : A → B) (t : B → Bool) {P : A → Type 0} {b : A} {cap len i n : ℕ} {ps l m : List A} where
  pub sifted : Kept P b cap len ps → Keeping (λ x. t (f x)) ps len i n l → len ≤ i → P b → m ≡ take n l ++ (replicate (len - n) b ++ drop len l)
      → Kept P b cap n m × (map f (take n m) ≡ keep t (map f (take len ps)))
  sifted k a h pb e =
      let pl : All P (take n l) = rw (keeping_end a h) (all_keep P (λ x. t (f x)) (take len ps) (all_take P len ps k.each)) in
      let s : length ps ≡ cap = k.size in
      let z : i ≡ len = omega arith in
      let q : drop len l ≡ replicate (cap - len) b = (rw z at a.ahead) ∙ k.rest in
      let y : length (take n l) ≡ n = length-take-le n l (omega arith) in
      let w : len - n + (cap - len) ≡ cap - n = omega arith in
      let r : m ≡ take n l ++ replicate (cap - n) b = e ∙ rw (q, replicate_add (len - n) (cap - len) b, w) in (
        record {
          small = omega arith;
          size = rw r (simp (length-append, length-replicate) (omega arith));
          rest = rw (r, drop_at (take n l) (replicate (cap - n) b) n y);
          each = rw r (all_append P (take n l) (replicate (cap - n) b) pl (all_replicate P (cap - n) b pb));
        },
        rw (r, take_at (take n l) (replicate (cap - n) b) n y, keeping_end a h) (keep_map f t (take len ps)),
      )

pub ruleset keeping = (rules, keeping_start, keeping_yes, keeping_no, keeping_turn, blanking_start, blanking_turn, blanking_end)
