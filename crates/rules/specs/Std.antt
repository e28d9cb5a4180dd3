-- What the documentation of Rust's standard library fixes: durations, instants, u32, the order of keys.
use Rattle.std.specs.Prelude.{◌≡◌, Bool, true, false, ◌&&◌, ◌||◌, List, [], ◌∷◌, ℕ, ◌+◌, ◌*◌, ◌-◌, ◌/◌, ◌%◌, ◌^◌, min, eqb, leb, ltb, if◌then◌else◌, None, Option, Some}
use Rattle.rules.specs.Base.{Bytes, All}

-- ---- Duration

-- A span of time: whole seconds (u64), and a part below a second in nanoseconds, below 10^9.
pub record Duration : Type 0 where
  pub secs : ℕ
  pub nanos : ℕ

-- The span in nanoseconds.
abbrev pub as_nanos : Duration → ℕ
as_nanos d = d.secs * 1_000_000_000 + d.nanos

-- `Duration::from_nanos`: the span of so many nanoseconds.
abbrev pub from_nanos : ℕ → Duration
from_nanos n = record { secs = n / 1_000_000_000; nanos = n % 1_000_000_000 }

-- `Duration::from_secs`: the span of so many seconds.
abbrev pub from_secs : ℕ → Duration
from_secs n = record { secs = n; nanos = 0 }

-- `Duration::MAX`: the longest span, u64::MAX seconds and 999,999,999 nanoseconds.
abbrev pub duration_max : Duration
duration_max = record { secs = 2 ^ 64 - 1; nanos = 999_999_999 }

-- `saturating_mul`: the product, and `MAX` where it would overflow.
unfoldable pub saturating_mul : Duration → ℕ → Duration
saturating_mul d k = if leb (as_nanos d * k) (as_nanos duration_max) then from_nanos (as_nanos d * k) else duration_max

-- The order of spans: by seconds, then by nanoseconds.
unfoldable pub shorter : Duration → Duration → Bool
shorter a b = ltb a.secs b.secs || (eqb a.secs b.secs && ltb a.nanos b.nanos)

-- `Ord::min`: the lesser of two, the first where they are equal.
unfoldable pub shortest : Duration → Duration → Duration
shortest a b = if shorter b a then b else a

-- ---- Instant, here a reading of 64-bit nanoseconds

abbrev pub last_reading : ℕ
last_reading = 2 ^ 64 - 1

-- `checked_add`: the later instant, and none where it cannot be represented.
unfoldable pub checked_add : ℕ → Duration → Option ℕ
checked_add now d = if leb (now + as_nanos d) last_reading then Some (now + as_nanos d) else None

-- `saturating_duration_since`: the span from the earlier instant to this one, zero where that one is later.
unfoldable pub saturating_since : ℕ → ℕ → Duration
saturating_since now earlier = from_nanos (now - earlier)

-- ---- u32

abbrev pub u32_max : ℕ
u32_max = 2 ^ 32 - 1

-- `checked_shl`: shifted left, and none for a shift by as many bits as the type has, or more.
unfoldable pub checked_shl : ℕ → ℕ → Option ℕ
checked_shl x bits = if ltb bits 32 then Some ((x * 2 ^ bits) % 2 ^ 32) else None

-- `saturating_add`: the sum, and the type's greatest number where it would overflow.
abbrev pub saturating_add : ℕ → ℕ → ℕ
saturating_add a b = min (a + b) u32_max

-- ---- the order of keys

-- Arrays and slices compare lexicographically: the first bytes that differ decide, and else the shorter comes first.
abbrev pub before : Bytes → Bytes → Bool
before [] [] = false
before [] (b ∷ t) = true
before (a ∷ s) [] = false
before (a ∷ s) (b ∷ t) = if eqb a b then before s t else ltb a b

-- Tuples too, part by part.
abbrev pub pair_before : ℕ × Bytes → ℕ × Bytes → Bool
pair_before a b = if eqb a.0 b.0 then before a.1 b.1 else ltb a.0 b.0

-- A `BTreeMap` iterates in ascending order of its keys, each once. A map is the list of its elements in that order.
module _ {A : Type 0} (less : A → A → Bool) where
  abbrev pub Ascending : List A → Type 0
  Ascending [] = Unit {0}
  Ascending (a ∷ s) = All (λ b. less a b ≡ true) s × Ascending s

  -- A key that the map has not yet takes its place in that order.
  unfoldable pub insert : A → List A → List A
  insert a [] = a ∷ []
  insert a (b ∷ s) = if less a b then a ∷ b ∷ s else b ∷ insert a s
