-- Writers: bytes put over a list at a place, and what several of them in a row make.
use Rattle.std.specs.Prelude.{ℕ, zero, suc, ◌+◌, ◌-◌, ◌/◌, ◌%◌, ◌≤◌, ◌<◌, ◌≡◌, refl, List, [], ◌∷◌, ◌++◌, length, take, drop, get_or, set}
use Rattle.std.proofs.Common.{sym, ap, ◌∙◌, append_assoc, add-zero, add_assoc, not-suc-le-zero, add-one, arith, rules, take_at, drop_at, drop-drop, length-take-le, take_all, length-append, length-take, length-drop, length-set, take-append-drop}
use Rattle.std.proofs.lemmas.List.{set_split, take-set-le}
use Rattle.rules.specs.Field.{digits}
use Rattle.lib_laws.specs.Shift.{drop_set}
use Rattle.lib_laws.specs.Beside.{taken_cons, taken_end}

unfoldable pub splice : List ℕ → ℕ → List ℕ → List ℕ
splice xs at bs = take at xs ++ (bs ++ drop (at + length bs) xs)

pub length_splice : (xs : List ℕ) (at : ℕ) (bs : List ℕ) → at + length bs ≤ length xs → length (splice xs at bs) ≡ length xs
unfolding splice
length_splice xs at bs h = simp (length-append, length-take, length-drop) (omega arith)

pub splice_none : (xs : List ℕ) (at : ℕ) → splice xs at [] ≡ xs
unfolding splice
splice_none xs at = rw (add-zero, take-append-drop)

-- two in a row
pub splice_splice : (xs : List ℕ) (a : ℕ) (bs cs : List ℕ) → a + length bs ≤ length xs → splice (splice xs a bs) (a + length bs) cs ≡ splice xs a (bs ++ cs)
unfolding splice
splice_splice xs a bs cs h =
    let n : ℕ = a + length bs in
    let d : List ℕ = drop (a + length bs) xs in
    let l : length (take a xs ++ bs) ≡ n = simp (length-append, length-take) (omega arith) in
    let e : take a xs ++ (bs ++ d) ≡ take a xs ++ bs ++ d = sym (append_assoc (take a xs) bs d) in
    rw (e, take_at (take a xs ++ bs) d n l, ← drop-drop (length cs) n (take a xs ++ bs ++ d), drop_at (take a xs ++ bs) d n l, drop-drop)
    (simp (append_assoc, length-append, add_assoc))

pub set_splice : (xs : List ℕ) (a b : ℕ) → a < length xs → set xs a b ≡ splice xs a (b ∷ [])
unfolding splice
set_splice xs a b h = rw (set_split xs a b h, add-one)

-- one more byte in front, or behind
pub splice_cons : (xs : List ℕ) (a b : ℕ) (bs : List ℕ) → a < length xs → splice (set xs a b) (a + 1) bs ≡ splice xs a (b ∷ bs)
splice_cons xs a b bs h = rw (set_splice xs a b h) (splice_splice xs a (b ∷ []) bs (omega arith))

pub splice_snoc : (xs : List ℕ) (a b : ℕ) (bs : List ℕ) → a + length bs < length xs → splice (set xs (a + length bs) b) a bs ≡ splice xs a (bs ++ (b ∷ []))
unfolding splice
splice_snoc xs a b bs h =
    rw (take-set-le a xs (a + length bs) b (omega arith), drop_set (a + length bs) xs b h) (simp (append_assoc, length-append, ← add_assoc, add-one))

pub length_digits : (n v : ℕ) → length (digits n v) ≡ n
unfolding digits
length_digits zero v = refl
length_digits (suc n) v = simp (length-append, length_digits n (v / 256), add-one)

-- what a writer did that was lent xs: it put the n bytes bs at a place, and answers the next place, r
pub record Wrote (xs : List ℕ) (at n : ℕ) (bs ys : List ℕ) (r : ℕ) : Type 0 where
  pub end : r ≡ at + n
  pub size : length bs ≡ n
  pub room : at + n ≤ length xs
  pub is : ys ≡ splice xs at bs

-- two writers in a row
pub wrote_then : {xs : List ℕ} {at n : ℕ} {bs ys : List ℕ} {r m : ℕ} {cs zs : List ℕ} {q : ℕ}
    → Wrote xs at n bs ys r → Wrote ys r m cs zs q → Wrote xs at (n + m) (bs ++ cs) zs q
wrote_then {xs} {at} {n} {bs} {ys} {r} {m} {cs} a b =
    let l : length ys ≡ length xs = ap length a.is ∙ length_splice xs at bs (rw a.size a.room) in
    record {
      end = omega arith;
      size = rw length-append (omega arith);
      room = omega arith;
      is = rw (b.is, a.is, a.end, ← a.size) (splice_splice xs at bs cs (rw a.size a.room));
    }

-- ---- a loop that puts a number, the last byte first: what is left to put makes the whole
pub record Putting (xs : List ℕ) (at n v₀ : ℕ) (l : List ℕ) (i v : ℕ) : Type 0 where
  pub within : i ≤ n
  pub room : at + n ≤ length xs
  pub size : length l ≡ length xs
  pub left : splice l at (digits i v) ≡ splice xs at (digits n v₀)

pub putting_start : (xs : List ℕ) (at n v : ℕ) → at + n ≤ length xs → Putting xs at n v xs n v
putting_start xs at n v h = record { within = omega arith; room = h; size = refl; left = refl }

pub putting_turn : {xs : List ℕ} {at n v₀ : ℕ} {l : List ℕ} {i v : ℕ} → Putting xs at n v₀ l i v → 0 < i → Putting xs at n v₀ (set l (at + (i - 1)) (v % 256)) (i - 1) (v / 256)
unfolding digits
putting_turn {i = zero} a p = absurd (not-suc-le-zero p)
putting_turn {at = at} {l = l} {i = suc j} {v} a p =
    let e : suc j - 1 ≡ j = omega arith in
    let d : length (digits j (v / 256)) ≡ j = length_digits j (v / 256) in
    rw e
    (record {
      within = omega arith;
      room = a.room;
      size = rw length-set a.size;
      left = (rw d at (splice_snoc l at (v % 256) (digits j (v / 256)) (rw d (omega arith)))) ∙ a.left;
    })

pub putting_end : {xs : List ℕ} {at n v₀ : ℕ} {l : List ℕ} {i v : ℕ} → Putting xs at n v₀ l i v → i ≤ 0 → Wrote xs at n (digits n v₀) l (at + n)
unfolding digits
putting_end {at = at} {n} {v₀} {l} {i} {v} a p =
    let e : i ≡ 0 = omega arith in
    record { end = refl; size = length_digits n v₀; room = a.room; is = sym (splice_none l at) ∙ (rw e at a.left) }

-- ---- a loop that puts the first n bytes of src
pub record Pasting (xs : List ℕ) (at n : ℕ) (src l : List ℕ) (i : ℕ) : Type 0 where
  pub within : i ≤ n
  pub source : n ≤ length src
  pub room : at + n ≤ length xs
  pub size : length l ≡ length xs
  pub left : splice l (at + i) (drop i (take n src)) ≡ splice xs at (take n src)

pub pasting_start : (xs : List ℕ) (at n : ℕ) (src : List ℕ) → at + n ≤ length xs → n ≤ length src → Pasting xs at n src xs 0
pasting_start xs at n src h k = record { within = omega arith; source = k; room = h; size = refl; left = rw add-zero }

pub pasting_turn : {xs : List ℕ} {at n : ℕ} {src l : List ℕ} {i : ℕ} → Pasting xs at n src l i → i < n → Pasting xs at n src (set l (at + i) (get_or src i 0)) (i + 1)
pasting_turn {at = at} {n} {src} {l} {i} a p = record {
  within = omega arith;
  source = a.source;
  room = a.room;
  size = rw length-set a.size;
  left =
      rw (← add_assoc at i 1, splice_cons l (at + i) (get_or src i 0) (drop (i + 1) (take n src)) (omega arith), add-one i, ← taken_cons n src i a.source p)
      a.left;
}

pub pasting_end : {xs : List ℕ} {at n : ℕ} {src l : List ℕ} {i : ℕ} → Pasting xs at n src l i → n ≤ i → Wrote xs at n (take n src) l (at + n)
pasting_end {at = at} {n} {src} {l} {i} a p =
    record { end = refl; size = length-take-le n src a.source; room = a.room; is = sym (splice_none l (at + i)) ∙ (rw (taken_end n src i a.source p) at a.left) }

pub pasting_all : {xs : List ℕ} {at n : ℕ} {src l : List ℕ} {i : ℕ} → Pasting xs at n src l i → n ≤ i → length src ≡ n → Wrote xs at n src l (at + n)
pasting_all {n = n} {src} a p e = rw (take_all n src (omega arith)) at (pasting_end a p)

pub wrote_byte : (xs : List ℕ) (at v : ℕ) → at < length xs → Wrote xs at 1 (v ∷ []) (set xs at v) (at + 1)
wrote_byte xs at v h = record { end = refl; size = refl; room = omega arith; is = set_splice xs at v h }

pub ruleset writing = (rules, putting_start, putting_turn, putting_end, wrote_byte)
