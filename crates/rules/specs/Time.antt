-- The settings and the two pieces of time arithmetic (params.rs).
use Rattle.std.specs.Prelude.{Bool, ◌||◌, ℕ, ◌*◌, eqb, ltb}
use Rattle.rules.specs.Base.{option}
use Rattle.rules.specs.Std.{Duration, from_nanos, from_secs, saturating_mul, shorter, shortest, last_reading, checked_add, saturating_since, u32_max, checked_shl}

-- Spans are nanoseconds, as a record of new gives them.
pub record Params : Type 0 where
  pub unheard : ℕ
  pub interval : ℕ
  pub replays : ℕ
  pub silent : ℕ
  pub silentbase : ℕ
  pub silentcap : ℕ
  pub horizon : ℕ
  pub counted : ℕ
  pub handshake : ℕ
  pub resend : ℕ
  pub resends : ℕ
  pub pending : ℕ

abbrev pub seconds : ℕ → ℕ
seconds n = n * 1_000_000_000

-- `Params::default`
unfoldable pub default : Params
default = record {
  unheard = seconds 1;
  interval = seconds 15;
  replays = 8;
  silent = 3;
  silentbase = seconds 30;
  silentcap = seconds 600;
  horizon = seconds 600;
  counted = 8;
  handshake = seconds 30;
  resend = seconds 1;
  resends = 5;
  pending = 1000;
}

-- refusal 1: counted 0 or above 8, or replays above 8
unfoldable pub out_of_range : Params → Bool
out_of_range c = eqb c.counted 0 || ltb 8 c.counted || ltb 8 c.replays

-- The factor is 1 shifted left by the exponent, 2^32 - 1 from 32 on; the product is cut to the cap.
unfoldable pub backoff : ℕ → Duration → Duration → Duration
backoff exponent base cap = shortest (saturating_mul base (option (checked_shl 1 exponent) u32_max (λ f. f))) cap

-- the furthest that a deadline reaches: 100 years
abbrev pub ceiling : Duration
ceiling = from_secs (100 * 365 * 24 * 60 * 60)

-- `now` and the span, cut to the ceiling first; where that sum does not fit, the last reading
unfoldable pub deadline : ℕ → Duration → ℕ
deadline now d = option (checked_add now (shortest d ceiling)) last_reading λ at. at

-- whether a reading is younger than a span; an earlier reading has age 0
unfoldable pub younger : ℕ → ℕ → ℕ → Bool
younger span now was = shorter (saturating_since now was) (from_nanos span)
