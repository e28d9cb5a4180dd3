-- The resends of a leg, and what an answer starts from.
use Rattle.std.specs.Prelude.{◌≡◌, ℕ, ltb, if◌then◌else◌, None, Option, Some}
use Rattle.rules.specs.Std.{from_nanos, duration_max, saturating_add}
use Rattle.rules.specs.Time.{Params, backoff, deadline}
use Rattle.rules.specs.Data.{Pair, Hello, Leg}
use Rattle.rules.specs.Legs.{resent}
use Rattle.node_addr.specs.Padded.{view}
use Rattle.node_addr.specs.declared.Fixed.{Fixed}
use Rattle.node_addr.specs.declared.padded.Padded.{Padded}
use Rattle.legs_entry.specs.declared.leg.Answer as answer

-- the msg1 that an answer leg answers
abbrev pub hello_of : Fixed 16 → Pair → Padded 128 → ℕ → answer.Answer → Hello
hello_of p from m l a = record { peer = p.0; from = from; bytes = view m; ephemeral = a.digest.0; epoch = a.epoch; msg2 = view a.msg2; lease = l }

-- the first resend of a dial
abbrev pub first_resend : Params → ℕ → Option ℕ
first_resend c now = if ltb 0 c.resends then Some (deadline now (from_nanos c.resend)) else None

-- the resend after n of them
abbrev pub resend_after : Params → ℕ → ℕ → Option ℕ
resend_after c now n = if ltb n c.resends then Some (deadline now (backoff n (from_nanos c.resend) duration_max)) else None

-- a leg with its next resend and the number of those sent
abbrev pub again : Option ℕ → ℕ → Leg → Leg
again o n g = record { link = g.link; peer = g.peer; kind = g.kind; msg1 = g.msg1; sent = n; next = o; deadline = g.deadline; lease = g.lease }

-- the leg after a resend
pub resent_is : (c : Params) (now : ℕ) (g : Leg) {n : ℕ} {o : Option ℕ} → n ≡ saturating_add g.sent 1 → o ≡ resend_after c now n → again o n g ≡ resent c now g
unfolding resent
resent_is c now g e d = rw (d, e)
