-- What stands at the front of a list of bytes: numbers and runs, read where they stand.
use Rattle.std.specs.Prelude.{ℕ, ◌+◌, ◌-◌, ◌*◌, ◌^◌, ◌≤◌, ◌<◌, ◌≡◌, refl, List, length, take, drop, get_or, None, Some}
use Rattle.std.proofs.Math.Path.{sym}
use Rattle.std.proofs.Common.{◌∙◌, lt_of_lt_of_le, pow-suc, add-one, arith, rules, le-leb, lit<, Fits, take_all, drop-cons, length-drop}
use Rattle.std.proofs.Math.Nat.{pow-le-pow_right}
use Rattle.std.proofs.lemmas.Bool.{lt-leb}
use Rattle.std.proofs.Math.Arith.{digits_lt}
use Rattle.std.specs.Int.{w8, w64}
use Rattle.rules.specs.Field.{more, bytes, up_to, number}
use Rattle.lib_laws.specs.Beside.{run_cons, run_end}

-- `&s[a..]` lends this part, which is what is left after a
pub rest_of_lem : (a : ℕ) (s : List ℕ) → take (length s - a) (drop a s) ≡ drop a s
rest_of_lem a s = take_all (length s - a) (drop a s) (rw length-drop (omega arith))

module _ (n : ℕ) (s : List ℕ) where
  pub bytes_yes : n ≤ length s → bytes n s ≡ Some (take n s, drop n s)
  unfolding bytes
  bytes_yes h = rw (le-leb n (length s) h)

  pub bytes_no : length s < n → bytes n s ≡ None
  unfolding bytes
  bytes_no h = rw (lt-leb n (length s) h)

  pub number_yes : n ≤ length s → number n s ≡ Some (more 0 (take n s), drop n s)
  unfolding number
  number_yes h = rw (le-leb n (length s) h)

  pub number_no : length s < n → number n s ≡ None
  unfolding number
  number_no h = rw (lt-leb n (length s) h)

  pub up_to_yes : (limit : ℕ) → n ≤ limit → n ≤ length s → up_to limit n s ≡ Some (take n s, drop n s)
  unfolding up_to
  up_to_yes limit k h = rw (le-leb n limit k, bytes_yes h)

  pub up_to_big : (limit : ℕ) → limit < n → up_to limit n s ≡ None
  unfolding up_to
  up_to_big limit k = rw (lt-leb n limit k)

  pub up_to_no : (limit : ℕ) → n ≤ limit → length s < n → up_to limit n s ≡ None
  unfolding up_to
  up_to_no limit k h = rw (le-leb n limit k, bytes_no h)

-- a byte is the number of a run of one
pub byte_is : (s : List ℕ) (at : ℕ) → at < length s → more 0 (take 1 (drop at s)) ≡ get_or s at 0
unfolding more
byte_is s at h = rw (drop-cons s at 0 h) (omega arith)

-- the invariant of a loop that reads the number of n bytes of s from `at` on: it stands at i, and has v
pub record Counting (s : List ℕ) (at n i v : ℕ) : Type 0 where
  pub within : i ≤ n
  pub room : at + n ≤ length s
  pub small : v < 256 ^ i
  pub left : more 0 (take n (drop at s)) ≡ more v (drop i (take n (drop at s)))

pub counting_start : (s : List ℕ) (at n : ℕ) → at + n ≤ length s → Counting s at n 0 0
counting_start s at n h = record { within = omega arith; room = h; small = lit< tt; left = refl }

module _ {s : List ℕ} {at n i v : ℕ} (a : Counting s at n i v) (p : i < n) (b : Fits w8 (get_or s (at + i) 0)) where
  grows : v * 256 + get_or s (at + i) 0 < 256 ^ (i + 1)
  grows = rw (add-one, pow-suc) (digits_lt a.small b.fits)

  -- the next value fits a word
  pub counting_fits : n ≤ 8 → Fits w64 (v * 256 + get_or s (at + i) 0)
  counting_fits h = record { fits = lt_of_lt_of_le grows (pow-le-pow_right {n = 256} (lit< tt) {i = i + 1} {j = 8} (omega arith)) }

  pub counting_turn : Counting s at n (i + 1) (v * 256 + get_or s (at + i) 0)
  unfolding more
  counting_turn = record { within = omega arith; room = a.room; small = grows; left = a.left ∙ rw (run_cons n s at i a.room p, add-one) }

pub counting_mul : {s : List ℕ} {at n i v : ℕ} → Counting s at n i v → i < n → n ≤ 8 → Fits w64 (v * 256)
counting_mul {i = i} {v = v} a p h =
    let e : v < 256 ^ 7 = lt_of_lt_of_le a.small (pow-le-pow_right {n = 256} (lit< tt) {i = i} {j = 7} (omega arith)) in
    omega arith

module _ {s : List ℕ} {at n i v : ℕ} (a : Counting s at n i v) (p : n ≤ i) where
  pub counting_end : v ≡ more 0 (take n (drop at s))
  unfolding more
  counting_end = sym (a.left ∙ rw (run_end n s at i a.room p))

  pub counting_small : v < 256 ^ n
  counting_small = let e : i ≡ n = omega arith in rw e at a.small

pub byte_word : {x : ℕ} → Fits w8 x → Fits w64 x
byte_word h = omega arith

pub ruleset counting = (rules, byte_word, counting_start, counting_mul, counting_fits, counting_turn, counting_end, counting_small)
