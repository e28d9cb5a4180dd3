-- The steps of a script: a word, of which the first byte counts, and up to five decimal numbers, each behind one space; what follows them is passed over.
use Rattle.std.specs.Prelude.{◌≡◌, refl, ℕ, zero, suc, ◌+◌, ◌-◌, ◌*◌, ◌%◌, ◌^◌, ◌<◌, ◌≤◌, Bool, true, false, ◌&&◌, ltb, [], ◌∷◌, length, drop, ◌==◌, nat_le, nat_lt, slice_index, if◌then◌else◌, fold, take, take_while}
use Rattle.std.proofs.Common.{sym, ap, ◌∙◌, add-one, arith, take_all}
use Rattle.std.proofs.Math.Seq.{drop-cons, drop-length}
use Rattle.std.proofs.lemmas.List.{length-drop}
use Rattle.std.proofs.lemmas.List.Sums.{prefix_len-le-length, take_while-cons}
use Rattle.std.proofs.lemmas.List.Folds.{length-prefix_len}
use Rattle.rules.specs.Base.{Bytes}

-- ---- numbers

abbrev pub digit : ℕ → Bool
digit b = nat_le 48 b && nat_le b 57

-- a number with one more digit, the bits past 64 cut
abbrev pub with_digit : ℕ → ℕ → ℕ
with_digit v b = (v * 10 + b % 16) % 2 ^ 64

-- what the digits at the front spell
abbrev pub numeral : Bytes → ℕ
numeral s = fold with_digit 0 (take_while digit s)

-- how many bytes at the front pass a test
abbrev pub run : (ℕ → Bool) → Bytes → ℕ
run test s = length (take_while test s)

-- a number, and how many bytes it is
abbrev pub Number : Type 0
Number = ℕ × ℕ

abbrev pub number_there : Bytes → Number
number_there s = (numeral s, run digit s)

-- the number behind a space, 0 where there is none
unfoldable pub argument : Bytes → Number
argument [] = (0, 0)
argument (b ∷ s) = if b == 32 then (numeral s, suc (run digit s)) else (0, 0)

-- where the next word of a text begins, and the k-th
abbrev pub next_word : Bytes → ℕ → ℕ
next_word s at = if nat_lt at (length s) then at + run (ltb 32) (drop at s) + 1 else at

unfoldable pub word_start : Bytes → ℕ → ℕ
word_start s zero = 0
word_start s (suc k) = next_word s (word_start s k)

-- ---- what the readers say

-- the place after those bytes from a place on that pass the test
pub record Runs (test : ℕ → Bool) (s : Bytes) (at r : ℕ) : Type 0 where
  pub is : r ≡ at + run test (drop at s)
  pub room : r ≤ length s

-- the number that is read at a place, and the place after it
pub record Reads (read : Bytes → Number) (s : Bytes) (at v r : ℕ) : Type 0 where
  pub value : v ≡ (read (drop at s)).0
  pub is : r ≡ at + (read (drop at s)).1
  pub room : r ≤ length s

-- the place after k arguments, and the argument there
unfoldable pub after : ℕ → Bytes → ℕ → ℕ
after zero s at = at
after (suc k) s at = after k s (at + (argument (drop at s)).1)

abbrev pub nth : ℕ → Bytes → ℕ → ℕ
nth k s at = (argument (drop (after k s at) s)).0

pub record Fives (s : Bytes) (at a b c d e r : ℕ) : Type 0 where
  pub first : a ≡ nth 0 s at
  pub second : b ≡ nth 1 s at
  pub third : c ≡ nth 2 s at
  pub fourth : d ≡ nth 3 s at
  pub fifth : e ≡ nth 4 s at
  pub is : r ≡ after 5 s at
  pub room : r ≤ length s

-- where the numbers of the line at a place begin, and where the line ends
abbrev pub numbers_at : Bytes → ℕ → ℕ
numbers_at s at = at + run (ltb 32) (drop at s)

abbrev pub line_end : Bytes → ℕ → ℕ
line_end s at = let e : ℕ = after 5 s (numbers_at s at) in e + run (ltb 10) (drop e s)

pub record Steps (s : Bytes) (at w a b c d e r : ℕ) : Type 0 where
  pub word : w ≡ slice_index s at
  pub first : a ≡ nth 0 s (numbers_at s at)
  pub second : b ≡ nth 1 s (numbers_at s at)
  pub third : c ≡ nth 2 s (numbers_at s at)
  pub fourth : d ≡ nth 3 s (numbers_at s at)
  pub fifth : e ≡ nth 4 s (numbers_at s at)
  pub is : r ≡ line_end s at + 1

-- ---- how they are met

-- from a place on
pub rest_of : (s : Bytes) (at : ℕ) → take (length s - at) (drop at s) ≡ drop at s
rest_of s at = take_all (length s - at) (drop at s) (omega (arith, length-drop at s))

-- the count of those that pass
run_at_most : (test : ℕ → Bool) (s : Bytes) → run test s ≤ length s
run_at_most test s = rw length-prefix_len (prefix_len-le-length test s)

pub counted : {test : ℕ → Bool} {s : Bytes} {at n : ℕ} → at ≤ length s → n ≡ run test (take (length s - at) (drop at s)) → Runs test s at (at + n)
counted {test} {s} {at} h e =
    let f = rw rest_of at e in
    record { is = ap (λ (k : ℕ). at + k) f; room = omega (arith, f, run_at_most test (drop at s), length-drop at s) }

module _ (s : Bytes) where
  nothing_left : {i : ℕ} → i ≡ length s → drop i s ≡ []
  nothing_left e = ap (λ (k : ℕ). drop k s) e ∙ drop-length s

  -- the bytes from a place on that pass a test: there is one more, and none
  front_more : (test : ℕ → Bool) (i : ℕ) → i < length s → test (slice_index s i) ≡ true → take_while test (drop i s) ≡ slice_index s i ∷ take_while test (drop (i + 1) s)
  front_more test i h e = rw (add-one i, drop-cons s i 0 h) (take_while-cons test (slice_index s i) (drop (suc i) s) ∙ rw e)

  front_stop : (test : ℕ → Bool) (i : ℕ) → i < length s → test (slice_index s i) ≡ false → take_while test (drop i s) ≡ []
  front_stop test i h e = rw (drop-cons s i 0 h) (take_while-cons test (slice_index s i) (drop (suc i) s) ∙ rw e)

  -- at a byte that passes, at one that does not, and at the end
  pub run_more : (test : ℕ → Bool) (i : ℕ) → i < length s → test (slice_index s i) ≡ true → i + run test (drop i s) ≡ i + 1 + run test (drop (i + 1) s)
  run_more test i h e = ap (λ (xs : Bytes). i + length xs) (front_more test i h e) ∙ omega arith

  pub run_stop : (test : ℕ → Bool) (i : ℕ) → i < length s → test (slice_index s i) ≡ false → run test (drop i s) ≡ 0
  run_stop test i h e = ap (λ (xs : Bytes). length xs) (front_stop test i h e)

  pub run_end : (test : ℕ → Bool) (i : ℕ) → i ≡ length s → run test (drop i s) ≡ 0
  run_end test i h = rw (nothing_left h)

  -- and of the number v with the digits from there on behind it, which is `numeral` where v is 0
  pub numeral_more : (v i : ℕ) → i < length s → digit (slice_index s i) ≡ true
      → fold with_digit v (take_while digit (drop i s)) ≡ fold with_digit (with_digit v (slice_index s i)) (take_while digit (drop (i + 1) s))
  numeral_more v i h e = ap (λ (xs : Bytes). fold with_digit v xs) (front_more digit i h e)

  pub numeral_stop : (v i : ℕ) → i < length s → digit (slice_index s i) ≡ false → fold with_digit v (take_while digit (drop i s)) ≡ v
  numeral_stop v i h e = ap (λ (xs : Bytes). fold with_digit v xs) (front_stop digit i h e)

  pub numeral_end : (v i : ℕ) → i ≡ length s → fold with_digit v (take_while digit (drop i s)) ≡ v
  numeral_end v i h = rw (nothing_left h)

  -- at a space, at another byte, and at the end
  pub argument_space : {i v n : ℕ} → i < length s → slice_index s i ≡ 32 → v ≡ numeral (take (length s - (i + 1)) (drop (i + 1) s)) → n ≡ run digit (take (length s - (i + 1)) (drop (i + 1) s))
      → Reads argument s i v (i + 1 + n)
  unfolding argument
  argument_space {i} {n = n} h e f g =
      let r = counted {test = digit} {s = s} {at = i + 1} {n = n} (omega arith) g in
      let k : drop i s ≡ slice_index s i ∷ drop (i + 1) s = rw (add-one i) (drop-cons s i 0 h) in
      record { value = f ∙ rw (k, e, rest_of s (i + 1)); is = r.is ∙ rw (k, e) (omega arith); room = r.room }

  pub argument_other : (i : ℕ) → i < length s → (slice_index s i == 32) ≡ false → Reads argument s i 0 i
  unfolding argument
  argument_other i h e = record { value = rw (drop-cons s i 0 h, e); is = rw (drop-cons s i 0 h, e) (omega arith); room = omega (arith, h) }

  pub argument_end : (i : ℕ) → i ≡ length s → Reads argument s i 0 i
  unfolding argument
  argument_end i e = record { value = rw (nothing_left e); is = rw (nothing_left e) (omega arith); room = omega (arith, e) }

-- a loop has come from a place to i
pub record Coming (test : ℕ → Bool) (s : Bytes) (at i : ℕ) : Type 0 where
  pub room : i ≤ length s
  pub is : i + run test (drop i s) ≡ at + run test (drop at s)

pub coming_start : (test : ℕ → Bool) (s : Bytes) {at : ℕ} → at ≤ length s → Coming test s at at
coming_start test s h = record { room = h; is = refl }

module _ {test : ℕ → Bool} {s : Bytes} {at i : ℕ} (a : Coming test s at i) where
  pub coming_more : i < length s → test (slice_index s i) ≡ true → Coming test s at (i + 1)
  coming_more h e = record { room = omega (arith, h); is = sym (run_more s test i h e) ∙ a.is }

  pub coming_stop : i < length s → test (slice_index s i) ≡ false → Runs test s at i
  coming_stop h e = record { is = omega (arith, run_stop s test i h e, a.is); room = a.room }

  pub coming_end : length s ≤ i → Runs test s at i
  coming_end h = record { is = omega (arith, run_end s test i (omega (arith, h, a.room)), a.is); room = a.room }

-- the loop over digits has come to i with the number v
pub record Reading (s : Bytes) (at v i : ℕ) : Type 0 where
  pub came : Coming digit s at i
  pub value : fold with_digit v (take_while digit (drop i s)) ≡ numeral (drop at s)

pub reading_start : (s : Bytes) {at : ℕ} → at ≤ length s → Reading s at 0 at
reading_start s h = record { came = coming_start digit s h; value = refl }

module _ {s : Bytes} {at v i : ℕ} (a : Reading s at v i) where
  pub reading_more : {w : ℕ} → i < length s → digit (slice_index s i) ≡ true → w ≡ with_digit v (slice_index s i) → Reading s at w (i + 1)
  reading_more h e f = record { came = coming_more a.came h e; value = ap (λ (x : ℕ). fold with_digit x (take_while digit (drop (i + 1) s))) f ∙ sym (numeral_more s v i h e) ∙ a.value }

  pub reading_stop : i < length s → digit (slice_index s i) ≡ false → Reads number_there s at v i
  reading_stop h e = let r = coming_stop a.came h e in record { value = sym (numeral_stop s v i h e) ∙ a.value; is = r.is; room = r.room }

  pub reading_end : length s ≤ i → Reads number_there s at v i
  reading_end h = let r = coming_end a.came h in record { value = sym (numeral_end s v i (omega (arith, h, a.came.room))) ∙ a.value; is = r.is; room = r.room }

pub word_more : (s : Bytes) (i : ℕ) {at r : ℕ} → at ≡ word_start s i → r ≡ next_word s at → r ≡ word_start s (i + 1)
unfolding word_start
word_more s i e f = f ∙ ap (next_word s) e ∙ sym (ap (word_start s) (add-one i))

pub fives : {s : Bytes} {at a b c d e p q u v r : ℕ} → Reads argument s at a p → Reads argument s p b q → Reads argument s q c u → Reads argument s u d v → Reads argument s v e r
    → Fives s at a b c d e r
unfolding after
fives {s} a b c d e =
    let p = a.is in
    let q = b.is ∙ ap (λ (k : ℕ). k + (argument (drop k s)).1) p in
    let u = c.is ∙ ap (λ (k : ℕ). k + (argument (drop k s)).1) q in
    let v = d.is ∙ ap (λ (k : ℕ). k + (argument (drop k s)).1) u in
    record {
      first = a.value;
      second = b.value ∙ ap (λ (k : ℕ). (argument (drop k s)).0) p;
      third = c.value ∙ ap (λ (k : ℕ). (argument (drop k s)).0) q;
      fourth = d.value ∙ ap (λ (k : ℕ). (argument (drop k s)).0) u;
      fifth = e.value ∙ ap (λ (k : ℕ). (argument (drop k s)).0) v;
      is = e.is ∙ ap (λ (k : ℕ). k + (argument (drop k s)).1) v;
      room = e.room;
    }

after_on : (k : ℕ) (s : Bytes) (at : ℕ) → at ≤ after k s at
unfolding after
after_on zero s at = omega arith
after_on (suc k) s at = omega (arith, after_on k s (at + (argument (drop at s)).1))

-- the next line is further on
pub steps_on : {s : Bytes} {at w a b c d e r : ℕ} → Steps s at w a b c d e r → at < r
steps_on {s} {at} x = omega (arith, x.is, after_on 5 s (numbers_at s at))

pub steps : {s : Bytes} {at w a b c d e n m l : ℕ} → w ≡ slice_index s at → Runs (ltb 32) s at n → Fives s n a b c d e m → Runs (ltb 10) s m l → Steps s at w a b c d e (l + 1)
steps {s} w n f l = record {
  word = w;
  first = f.first ∙ ap (nth 0 s) n.is;
  second = f.second ∙ ap (nth 1 s) n.is;
  third = f.third ∙ ap (nth 2 s) n.is;
  fourth = f.fourth ∙ ap (nth 3 s) n.is;
  fifth = f.fifth ∙ ap (nth 4 s) n.is;
  is = ap (λ (k : ℕ). k + 1) (l.is ∙ ap (λ (k : ℕ). k + run (ltb 10) (drop k s)) (f.is ∙ ap (after 5 s) n.is));
}
