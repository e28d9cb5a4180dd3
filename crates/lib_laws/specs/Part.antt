-- A run of a list: after a splice, as a part of a slice that is lent and put back, and of zeros.
use Rattle.std.specs.Prelude.{ℕ, zero, suc, ◌+◌, ◌-◌, ◌≤◌, ◌<◌, ◌≡◌, refl, List, [], ◌∷◌, ◌++◌, length, take, drop, get_or, set, replicate}
use Rattle.std.proofs.Common.{sym, ap, ◌∙◌, append_assoc, not-suc-le-zero, le_of_suc-le-suc, add-zero, add_assoc, arith, take_at, drop_at, drop-drop, take-take, length-take-le, get_or-drop, length-append, length-take, length-drop, take-append-drop}
use Rattle.std.proofs.lemmas.List.{take-append-le, drop-append-le}
use Rattle.std.proofs.Math.Seq.{take-append-add, drop-append-add}
use Rattle.lib_laws.specs.Splice.{splice, length_splice}

-- a part of a part
pub part_of : (o w m : ℕ) (u : List ℕ) → o + w ≤ m → take w (drop o (take m u)) ≡ take w (drop o u)
part_of zero w m u h = take-take w m u (omega arith)
part_of (suc o) w zero u h = absurd (omega arith)
part_of (suc o) w (suc m) [] h = refl
part_of (suc o) w (suc m) (x ∷ u) h = part_of o w m u (omega arith)

pub part_at : (n : ℕ) (s : List ℕ) (at o w : ℕ) → o + w ≤ n → take w (drop o (take n (drop at s))) ≡ take w (drop (at + o) s)
part_at n s at o w h = part_of o w n (drop at s) h ∙ rw (drop-drop o at s)

-- ---- a part of a list after a splice: itself, before it, after it
pub part_append : (o w : ℕ) (a x : List ℕ) → o + w ≤ length a → take w (drop o (a ++ x)) ≡ take w (drop o a)
part_append o w a x h =
    rw (drop-append-le o a x (omega arith)) (take-append-le w (drop o a) x (rw length-drop (omega arith)))

pub part_before : (o w : ℕ) (c : List ℕ) (a : ℕ) (bs : List ℕ) → o + w ≤ a → a ≤ length c → take w (drop o (splice c a bs)) ≡ take w (drop o c)
unfolding splice
part_before o w c a bs h k =
    let l : length (take a c) ≡ a = length-take-le a c k in
    part_append o w (take a c) (bs ++ drop (a + length bs) c) (omega arith)
    ∙ sym (part_append o w (take a c) (drop a c) (omega arith))
    ∙ ap (λ (t : List ℕ). take w (drop o t)) (take-append-drop a c)

pub drop_past : (p : ℕ) (c : List ℕ) (a : ℕ) (bs : List ℕ) → a + length bs ≤ p → a + length bs ≤ length c → drop p (splice c a bs) ≡ drop p c
unfolding splice
drop_past p c a bs h k =
    let m : ℕ = a + length bs in
    let l : length (take a c ++ bs) ≡ a + length bs = simp (length-append, length-take) (omega arith) in
    let e : p ≡ length (take a c ++ bs) + (p - (a + length bs)) = omega arith in
    let f : a + length bs + (p - (a + length bs)) ≡ p = omega arith in
    ap (λ (t : List ℕ). drop p t) (sym (append_assoc (take a c) bs (drop (a + length bs) c)))
    ∙ ap (λ (q : ℕ). drop q (take a c ++ bs ++ drop (a + length bs) c)) e
    ∙ drop-append-add (take a c ++ bs) (drop (a + length bs) c) (p - (a + length bs))
    ∙ drop-drop (p - (a + length bs)) (a + length bs) c ∙ ap (λ (q : ℕ). drop q c) f

pub part_same : (n : ℕ) (c : List ℕ) (a : ℕ) (bs : List ℕ) → a ≤ length c → length bs ≡ n → take n (drop a (splice c a bs)) ≡ bs
unfolding splice
part_same n c a bs h e = rw (drop_at (take a c) (bs ++ drop (a + length bs) c) a (length-take-le a c h)) (take_at bs (drop (a + length bs) c) n e)

pub part_after : (o w : ℕ) (c : List ℕ) (a : ℕ) (bs : List ℕ) → a + length bs ≤ o → a + length bs ≤ length c → take w (drop o (splice c a bs)) ≡ take w (drop o c)
part_after o w c a bs h k = ap (λ (t : List ℕ). take w t) (drop_past o c a bs h k)

-- ---- a splice inside one half
pub splice_left : (a b : List ℕ) (o : ℕ) (bs : List ℕ) → o + length bs ≤ length a → splice (a ++ b) o bs ≡ splice a o bs ++ b
unfolding splice
splice_left a b o bs h =
    rw (take-append-le o a b (omega arith), drop-append-le (o + length bs) a b h) (simp append_assoc)

pub splice_right : (a b : List ℕ) (k : ℕ) (bs : List ℕ) → splice (a ++ b) (length a + k) bs ≡ a ++ splice b k bs
unfolding splice
splice_right a b k bs = rw (take-append-add a b k, add_assoc, drop-append-add a b (k + length bs)) (simp append_assoc)

-- the byte past the chunks
pub get_d_past : (p : ℕ) (c : List ℕ) (a : ℕ) (bs : List ℕ) → a + length bs ≤ p → a + length bs ≤ length c → get_or (splice c a bs) p 0 ≡ get_or c p 0
get_d_past p c a bs h k =
    let e : get_or (splice c a bs) (p + 0) 0 ≡ get_or c (p + 0) 0 =
    sym (get_or-drop p (splice c a bs) 0 0) ∙ ap (λ (t : List ℕ). get_or t 0 0) (drop_past p c a bs h k) ∙ get_or-drop p c 0 0 in
    rw add-zero at e

pub get_d_here : (xs : List ℕ) (i v : ℕ) → i < length xs → get_or (set xs i v) i 0 ≡ v
get_d_here [] i v p = absurd (not-suc-le-zero p)
get_d_here (x ∷ xs) zero v p = refl
get_d_here (x ∷ xs) (suc i) v p = get_d_here xs i v (le_of_suc-le-suc p)

-- `&mut s[a..a + k]` lends a part of this length
pub mid_width : (a k : ℕ) → a + k - a ≡ k
mid_width a k = omega arith

-- ---- a part of a slice, lent and put back: ys in the place of the k elements from the a-th on
pub put_is : (a k : ℕ) (xs ys : List ℕ) → length ys ≡ k → take a xs ++ (ys ++ drop k (drop a xs)) ≡ splice xs a ys
unfolding splice
put_is a k xs ys e = rw (drop-drop, e)

module _ (a k : ℕ) (xs ys : List ℕ) (e : length ys ≡ k) (h : a + k ≤ length xs) where
  pub put_length : length (take a xs ++ (ys ++ drop k (drop a xs))) ≡ length xs
  put_length = rw (put_is a k xs ys e) (length_splice xs a ys (omega arith))

  pub put_here : take k (drop a (take a xs ++ (ys ++ drop k (drop a xs)))) ≡ ys
  put_here = rw (put_is a k xs ys e) (part_same k xs a ys (omega arith) e)

  pub put_before : (o n : ℕ) → o + n ≤ a → take n (drop o (take a xs ++ (ys ++ drop k (drop a xs)))) ≡ take n (drop o xs)
  put_before o n p = rw (put_is a k xs ys e) (part_before o n xs a ys p (omega arith))

  pub put_after : (o n : ℕ) → a + k ≤ o → take n (drop o (take a xs ++ (ys ++ drop k (drop a xs)))) ≡ take n (drop o xs)
  put_after o n p = rw (put_is a k xs ys e) (part_after o n xs a ys (omega arith) (omega arith))

-- ---- zeros
pub take_zeros : (w m : ℕ) → w ≤ m → take w (replicate {A = ℕ} m 0) ≡ replicate w 0
take_zeros zero m h = refl
take_zeros (suc w) zero h = absurd (not-suc-le-zero h)
take_zeros (suc w) (suc m) h = ap (λ (t : List ℕ). 0 ∷ t) (take_zeros w m (le_of_suc-le-suc h))

pub drop_zeros : (w k : ℕ) → drop w (replicate {A = ℕ} (k + w) 0) ≡ replicate k 0
drop_zeros zero k = rw add-zero
drop_zeros (suc w) k = let e : k + suc w ≡ suc (k + w) = omega arith in rw e (drop_zeros w k)

-- a region of zeros, in zeros
pub part_zeros : (o n m : ℕ) → o + n ≤ m → take n (drop o (replicate {A = ℕ} m 0)) ≡ replicate n 0
part_zeros o n m h =
    let e : m ≡ (m - o) + o = omega arith in
    ap (λ (k : ℕ). take n (drop o (replicate {A = ℕ} k 0))) e ∙ rw (drop_zeros o (m - o)) (take_zeros n (m - o) (omega arith))
