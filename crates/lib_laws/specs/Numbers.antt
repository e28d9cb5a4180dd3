-- Numbers and bytes as the standard library converts them, the most significant byte first, and slices as it copies and fills them: in the words of the rules and of `Wrote`.
use Rattle.std.specs.Prelude.{ℕ, ◌+◌, ◌-◌, ◌/◌, ◌%◌, ◌≤◌, ◌≡◌, refl, List, [], ◌∷◌, length, take, drop}
use Rattle.std.proofs.Common.{◌∙◌, append_assoc, arith, drop-drop, length-take-le, length-drop}
use lib.Seq.{paste}
use Rattle.std.specs.Int.{w16, w32, w64, from_be_bytes, to_be_bytes}
use borrow.Rule.Slice.PartMut.{put_mid}
use lib.Pointwise.{pointwise}
use lib.Dec.{eqb}
use Rattle.rules.specs.Base.{same}
use Rattle.rules.specs.Field.{more, digits}
use Rattle.lib_laws.specs.Splice.{Wrote, splice}

-- ---- read
pub more_four : (bs : List ℕ) (n : ℕ) → length bs ≡ 4 → n ≡ from_be_bytes w32 bs → n ≡ more 0 bs
unfolding more
more_four [] n l e = absurd (omega arith)
more_four (a ∷ []) n l e = absurd (omega arith)
more_four (a ∷ b ∷ []) n l e = absurd (omega arith)
more_four (a ∷ b ∷ c ∷ []) n l e = absurd (omega arith)
more_four (a ∷ b ∷ c ∷ d ∷ []) n l e = omega arith
more_four (a ∷ b ∷ c ∷ d ∷ x ∷ r) n l e = absurd (omega arith)

pub more_eight : (bs : List ℕ) (n : ℕ) → length bs ≡ 8 → n ≡ from_be_bytes w64 bs → n ≡ more 0 bs
unfolding more
more_eight [] n l e = absurd (omega arith)
more_eight (a ∷ []) n l e = absurd (omega arith)
more_eight (a ∷ b ∷ []) n l e = absurd (omega arith)
more_eight (a ∷ b ∷ c ∷ []) n l e = absurd (omega arith)
more_eight (a ∷ b ∷ c ∷ d ∷ []) n l e = absurd (omega arith)
more_eight (a ∷ b ∷ c ∷ d ∷ f ∷ []) n l e = absurd (omega arith)
more_eight (a ∷ b ∷ c ∷ d ∷ f ∷ g ∷ []) n l e = absurd (omega arith)
more_eight (a ∷ b ∷ c ∷ d ∷ f ∷ g ∷ h ∷ []) n l e = absurd (omega arith)
more_eight (a ∷ b ∷ c ∷ d ∷ f ∷ g ∷ h ∷ i ∷ []) n l e = omega arith
more_eight (a ∷ b ∷ c ∷ d ∷ f ∷ g ∷ h ∷ i ∷ x ∷ r) n l e = absurd (omega arith)

-- ---- written
pub digits_two : (v : ℕ) → to_be_bytes w16 (v % 65536) ≡ digits 2 v
unfolding digits
digits_two v =
    let a : v % 65536 / 256 % 256 ≡ v / 256 % 256 = omega arith in
    let b : v % 65536 % 256 ≡ v % 256 = omega arith in
    rw (a, b)

pub digits_four : (v : ℕ) → to_be_bytes w32 (v % 4294967296) ≡ digits 4 v
unfolding digits
digits_four v =
    let a : v % 4294967296 / 16777216 % 256 ≡ v / 256 / 256 / 256 % 256 = omega arith in
    let b : v % 4294967296 / 65536 % 256 ≡ v / 256 / 256 % 256 = omega arith in
    let c : v % 4294967296 / 256 % 256 ≡ v / 256 % 256 = omega arith in
    let d : v % 4294967296 % 256 ≡ v % 256 = omega arith in
    rw (a, b, c, d)

pub digits_eight : (v : ℕ) → to_be_bytes w64 v ≡ digits 8 v
unfolding digits
digits_eight v =
    let a : v / 72057594037927936 ≡ v / 256 / 256 / 256 / 256 / 256 / 256 / 256 = omega arith in
    let b : v / 281474976710656 ≡ v / 256 / 256 / 256 / 256 / 256 / 256 = omega arith in
    let c : v / 1099511627776 ≡ v / 256 / 256 / 256 / 256 / 256 = omega arith in
    let d : v / 4294967296 ≡ v / 256 / 256 / 256 / 256 = omega arith in
    let e : v / 16777216 ≡ v / 256 / 256 / 256 = omega arith in
    let f : v / 65536 ≡ v / 256 / 256 = omega arith in
    rw (a, b, c, d, e, f)

-- ---- n bytes of a slice set by the library: bs
pub wrote_mid : (xs : List ℕ) (at n : ℕ) (bs ys : List ℕ) → at + n ≤ length xs → length bs ≡ n → ys ≡ bs → Wrote xs at n bs (put_mid at (at + n - at) xs ys) (at + n)
unfolding splice
wrote_mid xs at n bs ys h l e =
    let k : at + n - at ≡ n = omega arith in
    record { end = refl; size = l; room = h; is = rw (e, k, l, drop-drop) }

pub wrote_copy : (xs : List ℕ) (at n : ℕ) (t : List ℕ) (from : ℕ) (ys : List ℕ) → at + n ≤ length xs → from + n ≤ length t → ys ≡ take n (drop from t) → Wrote xs at n (take n (drop from t)) (put_mid at (at + n - at) xs ys) (at + n)
wrote_copy xs at n t from ys h k e = wrote_mid xs at n (take n (drop from t)) ys h (length-take-le n (drop from t) (rw length-drop (omega arith))) e

-- n bytes from `from` on put at `to` of the same slice, whether or not the two runs overlap
pub copied_within : (xs : List ℕ) (from to n : ℕ) (ys : List ℕ) → from + n ≤ length xs → ys ≡ paste xs to (drop from xs) (from + n - from) → ys ≡ splice xs to (take n (drop from xs))
unfolding splice
copied_within xs from to n ys h e =
    let k : from + n - from ≡ n = omega arith in
    let l : length (take n (drop from xs)) ≡ n = length-take-le n (drop from xs) (rw length-drop (omega arith)) in
    (rw k at e) ∙ rw l (append_assoc (take to xs) (take n (drop from xs)) (drop (to + n) xs))

-- ---- arrays compared by the library
pub same_pointwise : (xs ys : List ℕ) → pointwise eqb xs ys ≡ same xs ys
same_pointwise [] [] = refl
same_pointwise [] (y ∷ ys) = refl
same_pointwise (x ∷ xs) [] = refl
same_pointwise (x ∷ xs) (y ∷ ys) = rw (same_pointwise xs ys)
