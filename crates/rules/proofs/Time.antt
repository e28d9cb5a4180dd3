-- Spans and deadlines in nanoseconds: the plain forms, and that the definitions over Duration and Instant equal them.
use Rattle.std.specs.Prelude.{if◌then◌else◌, None, Option, Some}
use mathlib.Core.Path.{◌≡◌, refl, sym, ap, ◌∙◌}
use mathlib.Core.Bool.{Bool, true, false, not, ◌&&◌, ◌||◌}
use Prim.Native.Nat.{ℕ, ◌+◌, ◌-◌, ◌*◌, ◌%◌, ◌^◌, ◌≤◌, ◌<◌, min}
use native.Mathlib.Nat.{one-mul}
use native.Mathlib.Omega.{arith}
use borrow.Author.Tests.{ltb-true, ltb-false, eqb-true, eqb-false, leb-true, leb-false, lt-ltb, le-ltb}
use lib.Dec.{eqb, leb, ltb, lit<, lit≤}
use lib.Pow.{shl_exact}
use Rattle.rules.specs.Base.{option}
use Rattle.rules.specs.Std.{Duration, as_nanos, from_nanos, duration_max, saturating_mul, shorter, shortest, last_reading, checked_add, saturating_since, u32_max, checked_shl}
use Rattle.rules.specs.Time.{Params, backoff, ceiling, deadline, younger}
use Rattle.rules.specs.Data.{Memory, Silence}
use Rattle.rules.specs.Gates.{differ, silencing, expired}
use Rattle.rules.specs.Bounds.{Word, IfAny}

-- ---- the plain forms

-- 2 to the e, and the greatest u32 from 32 on
unfoldable pub factor : ℕ → ℕ
factor e = if ltb e 32 then 2 ^ e else 2 ^ 32 - 1

abbrev pub ceiling_nanos : ℕ
ceiling_nanos = 3_153_600_000_000_000_000

-- ---- Duration

pub nanos_back : (n : ℕ) → as_nanos (from_nanos n) ≡ n
nanos_back n = omega arith

-- the order by parts is that of the nanoseconds
shorter_as : (a b : Duration) → a.nanos < 1_000_000_000 → b.nanos < 1_000_000_000 → shorter a b ≡ ltb (as_nanos a) (as_nanos b)
unfolding shorter
shorter_as a b h k = go (ltb a.secs b.secs) (eqb a.secs b.secs) (ltb a.nanos b.nanos) refl refl refl
  where
    go : (x y z : Bool) → ltb a.secs b.secs ≡ x → eqb a.secs b.secs ≡ y → ltb a.nanos b.nanos ≡ z
        → x || (y && z) ≡ ltb (as_nanos a) (as_nanos b)
    go true y z p q r = sym (lt-ltb (as_nanos a) (as_nanos b) (omega (arith, ltb-true a.secs b.secs p)))
    go false true true p q r = sym (lt-ltb (as_nanos a) (as_nanos b) (omega (arith, eqb-true a.secs b.secs q, ltb-true a.nanos b.nanos r)))
    go false true false p q r = sym (le-ltb (as_nanos a) (as_nanos b) (omega (arith, eqb-true a.secs b.secs q, ltb-false a.nanos b.nanos r)))
    go false false z p q r = sym (le-ltb (as_nanos a) (as_nanos b) (omega (arith, ltb-false a.secs b.secs p, eqb-false a.secs b.secs q)))

pub shorter_nanos : (a b : ℕ) → shorter (from_nanos a) (from_nanos b) ≡ ltb a b
shorter_nanos a b = rw (nanos_back a, nanos_back b) at (shorter_as (from_nanos a) (from_nanos b) (omega arith) (omega arith))

shortest_nanos : (a b : ℕ) → shortest (from_nanos a) (from_nanos b) ≡ from_nanos (min a b)
unfolding shortest
shortest_nanos a b = rw (shorter_nanos b a) (go (ltb b a) refl)
  where
    go : (x : Bool) → ltb b a ≡ x → (if x then from_nanos b else from_nanos a) ≡ from_nanos (min a b)
    go true e = let f : b ≡ min a b = omega (arith, ltb-true b a e) in ap from_nanos f
    go false e = let f : a ≡ min a b = omega (arith, ltb-false b a e) in ap from_nanos f

abbrev longest : ℕ
longest = as_nanos duration_max

mul_nanos : (a k : ℕ) → saturating_mul (from_nanos a) k ≡ from_nanos (min (a * k) longest)
unfolding saturating_mul
mul_nanos a k = rw (nanos_back a) (go (leb (a * k) longest) refl)
  where
    go : (x : Bool) → leb (a * k) longest ≡ x → (if x then from_nanos (a * k) else duration_max) ≡ from_nanos (min (a * k) longest)
    go true e = let f : a * k ≡ min (a * k) longest = omega (arith, leb-true (a * k) longest e) in ap from_nanos f
    go false e = let f : longest ≡ min (a * k) longest = omega (arith, leb-false (a * k) longest e) in ap from_nanos f

-- ---- backoff

pub shl_one : (e : ℕ) → e < 32 → (1 * 2 ^ e) % 2 ^ 32 ≡ 2 ^ e
shl_one e h = shl_exact {a = 1} 1 e 32 (lit< tt) (omega arith) ∙ one-mul (2 ^ e)

pub shifted : (e : ℕ) → option (checked_shl 1 e) u32_max (λ f. f) ≡ factor e
unfolding checked_shl factor
shifted e = go (ltb e 32) refl
  where
    go : (x : Bool) → ltb e 32 ≡ x → option (if x then Some ((1 * 2 ^ e) % 2 ^ 32) else None) u32_max (λ f. f) ≡ (if x then 2 ^ e else 2 ^ 32 - 1)
    go true p = shl_one e (ltb-true e 32 p)
    go false p = refl

backoff_long : (e base cap : ℕ) → cap ≤ longest → backoff e (from_nanos base) (from_nanos cap) ≡ from_nanos (min (base * factor e) cap)
unfolding backoff
backoff_long e base cap h =
    let m : min (min (base * factor e) longest) cap ≡ min (base * factor e) cap = omega arith in
    rw (shifted e, mul_nanos base (factor e), shortest_nanos (min (base * factor e) longest) cap, m)

pub backoff_nanos : (e base cap : ℕ) → Word cap → backoff e (from_nanos base) (from_nanos cap) ≡ from_nanos (min (base * factor e) cap)
backoff_nanos e base cap h = backoff_long e base cap (omega arith)

-- ---- deadline

deadline_sum : (now : ℕ) (d : Duration) → deadline now d ≡ min (now + as_nanos (shortest d ceiling)) last_reading
unfolding deadline checked_add
deadline_sum now d = go (now + as_nanos (shortest d ceiling)) _ refl
  where
    go : (at : ℕ) (x : Bool) → leb at last_reading ≡ x → option (if x then Some at else None) last_reading (λ at. at) ≡ min at last_reading
    go at true e = omega (arith, leb-true at last_reading e)
    go at false e = omega (arith, leb-false at last_reading e)

-- a sum that fits is the deadline, as in the Rust's first turn
pub deadline_fits : (now at : ℕ) (d : Duration) → checked_add now (shortest d ceiling) ≡ Some at → deadline now d ≡ at
unfolding deadline
deadline_fits now at d e = rw e

pub deadline_nanos : (now d : ℕ) → deadline now (from_nanos d) ≡ min (now + min d ceiling_nanos) last_reading
deadline_nanos now d = rw (deadline_sum now (from_nanos d), shortest_nanos d ceiling_nanos, nanos_back (min d ceiling_nanos))

-- a resend's backoff may be cut to the ceiling first
pub resend_nanos : (now e base : ℕ) → deadline now (backoff e (from_nanos base) duration_max) ≡ deadline now (from_nanos (min (base * factor e) ceiling_nanos))
resend_nanos now e base =
    let m : min (min (base * factor e) longest) ceiling_nanos ≡ min (min (base * factor e) ceiling_nanos) ceiling_nanos = omega arith in
    rw (backoff_long e base longest (lit≤ tt), deadline_nanos now (min (base * factor e) longest), deadline_nanos now (min (base * factor e) ceiling_nanos), m)

pub deadline_word : (now : ℕ) (d : Duration) → Word (deadline now d)
deadline_word now d = omega (arith, deadline_sum now d)

-- never before its reading
pub deadline_onward : (now : ℕ) (d : Duration) → Word now → now ≤ deadline now d
deadline_onward now d w = omega (arith, deadline_sum now d)

-- never earlier for a later reading or a longer span
pub deadline_monotone : (now later d e : ℕ) → now ≤ later → d ≤ e → deadline now (from_nanos d) ≤ deadline later (from_nanos e)
deadline_monotone now later d e h k = omega (arith, deadline_nanos now d, deadline_nanos later e)

-- ---- at the last reading

-- a horizon whose sum does not fit expires at the last reading, and not before
pub expired_last : (c : Params) (now : ℕ) (r : Silence) → last_reading < option r.until r.last (λ u. u) + min c.horizon ceiling_nanos → expired c now r ≡ leb last_reading now
unfolding expired
expired_last c now r h =
    let at : deadline (option r.until r.last (λ u. u)) (from_nanos c.horizon) ≡ last_reading
    = omega (arith, deadline_nanos (option r.until r.last (λ u. u)) c.horizon) in
    rw at

-- no silence holds at the last reading: an until there lets through
pub silencing_last : (epoch : Option ℕ) (m : Memory) → IfAny (λ s. IfAny Word s.until) m.silence → silencing epoch last_reading m ≡ false
unfolding silencing
silencing_last epoch m f = of_silence m.silence f
  where
    of_until : (until : Option ℕ) (b : Bool) → IfAny Word until → option until false (λ u. ltb last_reading u) && b ≡ false
    of_until None b w = refl
    of_until (Some u) b w = rw (le-ltb last_reading u (omega arith))

    of_silence : (s : Option Silence) → IfAny (λ s. IfAny Word s.until) s → option s false (λ s. option s.until false (λ u. ltb last_reading u) && not (differ s.epoch epoch)) ≡ false
    of_silence None f = refl
    of_silence (Some s) f = of_until s.until (not (differ s.epoch epoch)) f

-- ---- ages

pub younger_nanos : (span now was : ℕ) → younger span now was ≡ ltb (now - was) span
unfolding younger saturating_since
younger_nanos span now was = shorter_nanos (now - was) span
