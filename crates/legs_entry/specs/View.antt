-- What the bytes of an entry, a region and a leg by value show, and their canonical form.
use Rattle.std.specs.Prelude.{◌≡◌, refl, false, List, [], ◌∷◌, ℕ, get_or, replicate, if◌then◌else◌, None, Option, Some, option_map}
use Rattle.std.proofs.Common.{lit≤, lit<}
use Rattle.rules.specs.Base.{Bytes}
use Rattle.rules.specs.Data.{Answered, Kind, Leg}
use Rattle.lib_laws.specs.Buffer.{all_any}
use Rattle.lib_laws.specs.Cell.{num, flag_of, text_of, option_num, option_bytes, Code, Text, Optional}
use Rattle.lib_laws.specs.Fields.{cuts}
use Rattle.lib_laws.specs.Store.{Store, entries}
use Rattle.node_addr.specs.Padded.{view}
use Rattle.legs_entry.specs.Layout.{leg_ws, at_leg_count, leg_cap, leg_width}
use Rattle.legs_entry.specs.declared.leg.Answer as answer
use Rattle.legs_entry.specs.declared.leg.Leg as leg

-- ---- an entry: link, deadline, has_next, next, sent, lease, answer, has_peer, peer, answer_sent, replaces, epoch, digest, msg1 and msg2 with their lengths
-- the k-th cell
abbrev pub cell : List Bytes → ℕ → Bytes
cell fs k = get_or fs k []

abbrev pub answer_from : List Bytes → Answered
answer_from fs = record {
  msg2 = text_of (cell fs 15) (cell fs 16);
  ephemeral = cell fs 12;
  epoch = num (cell fs 11);
  replaces = flag_of (cell fs 10);
  sent = flag_of (cell fs 9);
}

abbrev pub kind_from : List Bytes → Kind
kind_from fs = if flag_of (cell fs 6) then Kind.Answer (answer_from fs) else Kind.Dial

abbrev pub leg_from : List Bytes → Leg
leg_from fs = record {
  link = num (cell fs 0);
  peer = option_bytes (cell fs 7) (cell fs 8);
  kind = kind_from fs;
  msg1 = text_of (cell fs 13) (cell fs 14);
  sent = num (cell fs 4);
  next = option_num (cell fs 2) (cell fs 3);
  deadline = num (cell fs 1);
  lease = num (cell fs 5);
}

abbrev pub leg_of : Bytes → Leg
leg_of c = leg_from (cuts 0 0 leg_ws c)

-- what a dial leaves blank
pub record BlankCells (fs : List Bytes) : Type 0 where
  pub answer_sent : cell fs 9 ≡ 0 ∷ []
  pub replaces : cell fs 10 ≡ 0 ∷ []
  pub epoch : cell fs 11 ≡ replicate 8 0
  pub digest : cell fs 12 ≡ replicate 32 0
  pub len2 : cell fs 15 ≡ 0 ∷ []
  pub msg2 : cell fs 16 ≡ replicate 128 0

-- the canonical form: flags 0 or 1, zeros past each length, for what is absent and for what only an answer has
pub record FitCells (fs : List Bytes) : Type 0 where
  pub next : Optional 8 (cell fs 2) (cell fs 3)
  pub answer : Code 2 (cell fs 6)
  pub peer : Optional 16 (cell fs 7) (cell fs 8)
  pub answer_sent : Code 2 (cell fs 9)
  pub replaces : Code 2 (cell fs 10)
  pub msg1 : Text 128 (cell fs 13) (cell fs 14)
  pub msg2 : Text 128 (cell fs 15) (cell fs 16)
  pub dial : flag_of (cell fs 6) ≡ false → BlankCells fs

abbrev pub FitLegCell : Bytes → Type 0
FitLegCell c = FitCells (cuts 0 0 leg_ws c)

-- ---- the region
abbrev pub view_legs : Bytes → List Leg
view_legs s = entries leg_of leg_width leg_cap s

-- a clause of each function that is lent the region: a struct that lends it would ask of each caller that the reference within keeps its name
abbrev pub FitLegs : Bytes → Type 0
FitLegs s = Store FitLegCell leg_width leg_cap s

abbrev pub leg_count : Bytes → ℕ
leg_count s = get_or s at_leg_count 0

abbrev pub no_leg : Leg
no_leg = leg_of (replicate leg_width 0)

-- the i-th leg
abbrev pub leg_at : Bytes → ℕ → Leg
leg_at s i = get_or (view_legs s) i no_leg

-- an entry of zeros
no_text : Text 128 (0 ∷ []) (replicate 128 0)
no_text = record { size = refl; kept = record { small = lit≤ tt; size = refl; rest = refl; each = all_any (replicate 128 0) } }

pub fit_zeros : FitLegCell (replicate leg_width 0)
fit_zeros = record {
  next = record { flag = record { size = refl; low = lit< tt }; size = refl; blank = λ e. refl };
  answer = record { size = refl; low = lit< tt };
  peer = record { flag = record { size = refl; low = lit< tt }; size = refl; blank = λ e. refl };
  answer_sent = record { size = refl; low = lit< tt };
  replaces = record { size = refl; low = lit< tt };
  msg1 = no_text;
  msg2 = no_text;
  dial = λ e. record { answer_sent = refl; replaces = refl; epoch = refl; digest = refl; len2 = refl; msg2 = refl };
}

-- ---- a leg by value
abbrev pub view_answer : answer.Answer → Answered
view_answer a = record { msg2 = view a.msg2; ephemeral = a.digest.0; epoch = a.epoch; replaces = a.replaces; sent = a.sent }

abbrev pub view_kind : Option answer.Answer → Kind
view_kind None = Kind.Dial
view_kind (Some a) = Kind.Answer (view_answer a)

abbrev pub view_leg : leg.Leg → Leg
view_leg l = record {
  link = l.link.0;
  peer = option_map (λ p. p.0) l.peer;
  kind = view_kind l.answer;
  msg1 = view l.msg1;
  sent = l.sent;
  next = l.next;
  deadline = l.deadline;
  lease = l.lease;
}
