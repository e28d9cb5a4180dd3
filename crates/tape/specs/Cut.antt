-- Where a tape's records end: what the rules' `extent` is by the bytes, and that `records` goes on from there.
use Rattle.std.specs.Prelude.{◌≡◌, refl, Bool, true, false, List, [], ◌∷◌, ℕ, zero, suc, ◌+◌, ◌-◌, ◌≤◌, ◌<◌, leb, length, take, drop}
use Rattle.std.proofs.Common.{ap, arith, length-drop}
use borrow.Author.Tests.{leb-true, leb-false, le-leb, lt-leb}
use Rattle.rules.specs.Base.{Bytes, All}
use Rattle.rules.specs.Field.{more}
use Rattle.rules.specs.Tape.{extent, records}
use Rattle.rules.specs.Bounds.{IsByte}
use Rattle.lib_laws.specs.Shift.{all_take, all_drop}
use Rattle.lib_laws.specs.Parse.{number_yes, number_no}

-- ---- the first record

-- the bytes of a record by its length, the number of its first two bytes
abbrev pub said_len : Bytes → ℕ
said_len s = more 0 (take 2 s) + 2

module _ (s : Bytes) where
  -- a length that is cut
  pub extent_short : length s < 2 → length s ≡ extent s
  unfolding extent
  extent_short h = rw (number_no 2 s h)

  -- a record that is whole, and one that is cut
  pub extent_whole : 2 ≤ length s → said_len s ≤ length s → said_len s ≡ extent s
  unfolding extent
  extent_whole h k = rw (number_yes 2 s h, le-leb (said_len s) (length s) k)

  pub extent_cut : 2 ≤ length s → length s < said_len s → length s ≡ extent s
  unfolding extent
  extent_cut h k = rw (number_yes 2 s h, lt-leb (said_len s) (length s) k)

-- it ends within the tape, and has a byte if the tape has one
pub record Ends (s : Bytes) : Type 0 where
  pub within : extent s ≤ length s
  pub some : 0 < length s → 0 < extent s

pub ends : (s : Bytes) → Ends s
ends s = go (leb 2 (length s)) (leb (said_len s) (length s)) refl refl
  where
    go : (c d : Bool) → leb 2 (length s) ≡ c → leb (said_len s) (length s) ≡ d → Ends s
    go true true e f =
        let x = extent_whole s (leb-true 2 (length s) e) (leb-true (said_len s) (length s) f) in
        let k = leb-true (said_len s) (length s) f in
        record { within = omega arith; some = λ h. omega arith }
    go true false e f =
        let x = extent_cut s (leb-true 2 (length s) e) (leb-false (said_len s) (length s) f) in
        record { within = omega arith; some = λ h. omega arith }
    go false d e f =
        let x = extent_short s (leb-false 2 (length s) e) in
        record { within = omega arith; some = λ h. omega arith }

-- ---- the records of a tape, however many bytes they may have

abbrev pub records_of : Bytes → List Bytes
records_of s = records (length s) s

records_same : (j k : ℕ) (s : Bytes) → length s ≤ j → length s ≤ k → records j s ≡ records k s
unfolding records
records_same zero zero s f g = refl
records_same zero (suc k) [] f g = refl
records_same zero (suc k) (b ∷ s) f g = absurd (omega arith)
records_same (suc j) zero [] f g = refl
records_same (suc j) zero (b ∷ s) f g = absurd (omega arith)
records_same (suc j) (suc k) [] f g = refl
records_same (suc j) (suc k) (b ∷ s) f g =
    let n : ℕ = extent (b ∷ s) in
    let h : 0 < n = (ends (b ∷ s)).some (omega arith) in
    let l : length (drop n (b ∷ s)) ≡ suc (length s) - n = length-drop n (b ∷ s) in
    ap (λ (r : List Bytes). take n (b ∷ s) ∷ r) (records_same j k (drop n (b ∷ s)) (omega arith) (omega arith))

-- the first, and those of what is left
pub records_first : (s : Bytes) → 0 < length s → records_of s ≡ take (extent s) s ∷ records_of (drop (extent s) s)
unfolding records
records_first [] h = absurd (omega arith)
records_first (b ∷ s) h =
    let n : ℕ = extent (b ∷ s) in
    let p : 0 < n = (ends (b ∷ s)).some h in
    let l : length (drop n (b ∷ s)) ≡ suc (length s) - n = length-drop n (b ∷ s) in
    ap (λ (r : List Bytes). take n (b ∷ s) ∷ r) (records_same (length s) (length (drop n (b ∷ s))) (drop n (b ∷ s)) (omega arith) (omega arith))

pub records_none : (s : Bytes) → length s ≤ 0 → records_of s ≡ []
unfolding records
records_none [] h = refl
records_none (b ∷ s) h = absurd (omega arith)

-- ---- their bytes

pub all_records : (k : ℕ) (s : Bytes) → All IsByte s → All (All IsByte) (records k s)
unfolding records
all_records zero s h = tt
all_records (suc k) [] h = tt
all_records (suc k) (b ∷ s) h = let n : ℕ = extent (b ∷ s) in (all_take IsByte n (b ∷ s) h, all_records k (drop n (b ∷ s)) (all_drop IsByte n (b ∷ s) h))
