-- Handshake legs: how they start, resend, wake and end (legs.rs).
use Rattle.std.specs.Prelude.{Bool, true, false, not, ◌||◌, List, [], ◌∷◌, map, ℕ, min, eqb, leb, ltb, length, if◌then◌else◌, None, Option, Some}
use Rattle.rules.specs.Base.{option, is, Bytes, same, keep}
use Rattle.rules.specs.Std.{from_nanos, duration_max, saturating_add}
use Rattle.rules.specs.Time.{Params, backoff, deadline}
use Rattle.rules.specs.Data.{Answered, Kind, Leg, Hello, Output, Resend}

abbrev pub on_link : ℕ → Leg → Bool
on_link n g = eqb n g.link

abbrev pub answered : Kind → Option Answered
answered Kind.Dial = None
answered (Kind.Answer a) = Some a

abbrev pub answers : Leg → Bool
answers g = is (answered g.kind)

-- the peer that a dial leg dialed
abbrev pub dialing : Leg → Option Bytes
dialing g = option (answered g.kind) g.peer λ a. None

-- `dial`
unfoldable pub dial_leg : Params → ℕ → ℕ → Bytes → Bytes → ℕ → Leg
dial_leg c now n p msg1 lease = record {
  link = n;
  peer = Some p;
  kind = Kind.Dial;
  msg1 = msg1;
  sent = 0;
  next = if ltb 0 c.resends then Some (deadline now (from_nanos c.resend)) else None;
  deadline = deadline now (from_nanos c.handshake);
  lease = lease;
}

-- `answer`
unfoldable pub answer_leg : Params → ℕ → ℕ → Hello → Bool → Leg
answer_leg c now n x replaces = record {
  link = n;
  peer = Some x.peer;
  kind = Kind.Answer (record { msg2 = x.msg2; ephemeral = x.ephemeral; epoch = x.epoch; replaces = replaces; sent = false });
  msg1 = x.bytes;
  sent = 0;
  next = None;
  deadline = deadline now (from_nanos c.handshake);
  lease = x.lease;
}

-- An answer leg not yet sent yields its msg2 for any bytes, a sent one only for equal msg1 bytes.
unfoldable pub stored_msg2 : Bytes → Leg → Option Bytes
stored_msg2 bytes g = option (answered g.kind) None λ a.
    if not a.sent || same bytes g.msg1 then Some a.msg2 else None

-- how many answer legs there are
unfoldable pub answering : List Leg → ℕ
answering s = length (keep answers s)

-- A resend that went out is counted, and the next is due after twice the interval.
unfoldable pub resent : Params → ℕ → Leg → Leg
resent c now g =
    let n : ℕ = saturating_add g.sent 1 in
    record {
      link = g.link;
      peer = g.peer;
      kind = g.kind;
      msg1 = g.msg1;
      sent = n;
      next = if ltb n c.resends then Some (deadline now (backoff n (from_nanos c.resend) duration_max)) else None;
      deadline = g.deadline;
      lease = g.lease;
    }

abbrev pub with_kind : Kind → Leg → Leg
with_kind k g = record { link = g.link; peer = g.peer; kind = k; msg1 = g.msg1; sent = g.sent; next = g.next; deadline = g.deadline; lease = g.lease }

abbrev pub sent_kind : Kind → Kind
sent_kind Kind.Dial = Kind.Dial
sent_kind (Kind.Answer a) = Kind.Answer (record { msg2 = a.msg2; ephemeral = a.ephemeral; epoch = a.epoch; replaces = a.replaces; sent = true })

abbrev pub unsent_kind : Kind → Kind
unsent_kind Kind.Dial = Kind.Dial
unsent_kind (Kind.Answer a) = Kind.Answer (record { msg2 = a.msg2; ephemeral = a.ephemeral; epoch = a.epoch; replaces = false; sent = a.sent })

-- the answer was sent; it could not be sent, so that a later install is a Promote
abbrev pub mark_sent : Leg → Leg
mark_sent g = with_kind (sent_kind g.kind) g

abbrev pub mark_unsent : Leg → Leg
mark_unsent g = with_kind (unsent_kind g.kind) g

-- ---- poll and wake

abbrev pub due : ℕ → ℕ → Bool
due now at = leb at now

-- the links of the legs that poll reaps: deadline at or before now
unfoldable pub overdue : ℕ → List Leg → List ℕ
overdue now s = map (λ g. g.link) (keep (λ g. due now g.deadline) s)

-- what poll repeats: each resend that is due, until sent moves it
unfoldable pub resends : ℕ → List Leg → List Output
resends now s = map (λ g. Resend g.link g.msg1) (keep (λ g. option g.next false (due now)) s)

-- the resend if it comes before the deadline, else the deadline
unfoldable pub wake : Leg → ℕ
wake g = option g.next g.deadline λ n. if ltb n g.deadline then n else g.deadline

-- `next_wake`, the earliest
unfoldable pub next_wake : List Leg → Option ℕ
next_wake [] = None
next_wake (g ∷ s) = Some (option (next_wake s) (wake g) λ n. min (wake g) n)
