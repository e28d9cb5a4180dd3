-- The time arithmetic of the code against the rules: the shift, the product that is cut, the sum that may not fit.
use Rattle.std.specs.Prelude.{◌≡◌, ℕ, ◌+◌, ◌-◌, ◌*◌, ◌%◌, ◌^◌, ◌≤◌, ◌<◌, min, ltb, if◌then◌else◌}
use Rattle.std.proofs.Common.{sym, ap, ◌∙◌, arith, rules, lt-ltb, le-ltb, lit<, pow_pos, Fits}
use Rattle.std.specs.Int.{w64}
use Rattle.rules.specs.Base.{option}
use Rattle.rules.specs.Std.{from_nanos, duration_max, checked_shl, u32_max}
use Rattle.rules.specs.Time as rule
use Rattle.rules.proofs.Time.{ceiling_nanos, shl_one, shifted, backoff_nanos, deadline_nanos, resend_nanos, younger_nanos}

-- ---- the factor
-- 2 ^ e below 32, and from there on the greatest of 32 bits
abbrev pub power : ℕ → ℕ
power e = if ltb e 32 then 2 ^ e else 2 ^ 32 - 1

module _ (e : ℕ) (h : e < 32) where
  pub factor_shift : (1 * 2 ^ e) % 2 ^ 32 ≡ option (checked_shl 1 e) u32_max (λ f. f)
  unfolding checked_shl
  factor_shift = rw (lt-ltb e 32 h)

  pub power_shift : (1 * 2 ^ e) % 2 ^ 32 ≡ power e
  power_shift = rw (lt-ltb e 32 h) (shl_one e h)

  pub shift_some : 0 < (1 * 2 ^ e) % 2 ^ 32
  shift_some = rw (shl_one e h) (pow_pos e)

pub factor_most : (e : ℕ) → 32 ≤ e → 4294967295 ≡ option (checked_shl 1 e) u32_max (λ f. f)
unfolding checked_shl
factor_most e h = rw (le-ltb e 32 h)

pub power_most : (e : ℕ) → 32 ≤ e → 4294967295 ≡ power e
power_most e h = rw (le-ltb e 32 h)

-- ---- the product that is cut
pub backoff_is : (e f base cap : ℕ) → f ≡ option (checked_shl 1 e) u32_max (λ f. f) → Fits w64 cap → from_nanos (min (min (base * f) 18446744073709551615) cap) ≡ rule.backoff e (from_nanos base) (from_nanos cap)
backoff_is e f base cap p w =
    let m : min (min (base * f) 18446744073709551615) cap ≡ min (base * f) cap = omega (arith, w.fits) in
    ap from_nanos m ∙ rw (p ∙ shifted e) (sym (backoff_nanos e base cap w.fits))

-- ---- the sum, of a step of at most the ceiling
module _ (now d step : ℕ) (e : step ≡ min d ceiling_nanos) where
  pub sum_last : 18446744073709551615 - now < step → 18446744073709551615 ≡ rule.deadline now (from_nanos d)
  sum_last h = omega (arith, deadline_nanos now d)

  pub sum_whole : Fits w64 now → step ≤ 18446744073709551615 - now → now + step ≡ rule.deadline now (from_nanos d)
  sum_whole w h = omega (arith, w.fits, deadline_nanos now d)

-- ---- the resend
pub resend_is : (now e base step r : ℕ) → from_nanos step ≡ rule.backoff e (from_nanos base) (from_nanos 3153600000000000000) → r ≡ rule.deadline now (from_nanos step)
    → r ≡ rule.deadline now (rule.backoff e (from_nanos base) duration_max)
resend_is now e base step r p q = q ∙ ap (rule.deadline now) (p ∙ backoff_nanos e base ceiling_nanos (lit< tt)) ∙ sym (resend_nanos now e base)

-- ---- ages
pub younger_is : (span now was a : ℕ) → a ≡ now - was → ltb a span ≡ rule.younger span now was
younger_is span now was a e = rw e (sym (younger_nanos span now was))

pub ruleset timing = (rules, factor_shift, factor_most, power_shift, power_most, shift_some, backoff_is, resend_is, younger_is)
