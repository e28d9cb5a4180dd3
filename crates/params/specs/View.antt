-- What the settings show, and which are within range.
use Rattle.std.specs.Prelude.{◌≡◌, ◌≤◌}
use Rattle.std.proofs.Math.Bool.{false}
use Rattle.std.proofs.Common.{arith}
use Rattle.std.proofs.lemmas.Grind.{common_steps}
use Rattle.rules.specs.Time.{Params, out_of_range}
use Rattle.params.specs.declared.Params as params

abbrev pub view_params : params.Params → Params
view_params p = record {
  unheard = p.unheard;
  interval = p.interval;
  replays = p.replays;
  silent = p.silent;
  silentbase = p.silentbase;
  silentcap = p.silentcap;
  horizon = p.horizon;
  counted = p.counted;
  handshake = p.handshake;
  resend = p.resend;
  resends = p.resends;
  pending = p.pending;
}

-- ---- refusal 1
pub in_range_says : (c : Params) → out_of_range c ≡ false → (1 ≤ c.counted) × (c.counted ≤ 8) × (c.replays ≤ 8)
unfolding out_of_range
in_range_says c e = grind (arith, common_steps)
