-- What single cells of the i-th leg show, where they stand.
use Rattle.std.specs.Prelude.{◌≡◌, Bool, false, ◌||◌, List, [], ℕ, ◌+◌, ◌*◌, ◌≤◌, ◌<◌, length, take, drop, replicate, if◌then◌else◌, None, Option, Some}
use Rattle.std.proofs.Math.Path.{refl}
use Rattle.std.proofs.Common.{sym, ap, ◌∙◌, add-zero, arith, lit≤, take-take, length-take-le, length-drop}
use Rattle.std.proofs.Math.Bool.{true, not}
use Rattle.rules.specs.Base.{option, is, Bytes, same}
use Rattle.rules.specs.Field.{more}
use Rattle.rules.specs.Data.{Kind, Answered, Leg}
use Rattle.rules.specs.Legs.{answered, answers, stored_msg2, due}
use Rattle.lib_laws.specs.Cell.{num, byte_of, flag_of, option_num, option_bytes, or_blank}
use Rattle.lib_laws.specs.Fields.{cuts}
use Rattle.lib_laws.specs.Beside.{same_apart}
use Rattle.legs_entry.specs.Layout.{leg_ws, at_answer, at_answer_sent, at_deadline, at_digest, at_epoch, at_has_next, at_has_peer, at_lease, at_msg1, at_msg1_bytes, at_msg2, at_msg2_bytes, at_replaces, at_sent, leg_width}
use Rattle.legs_entry.specs.View.{answer_from, BlankCells, FitLegs, leg_count, leg_at}
use Rattle.legs_entry.specs.Entry.{fit_here, leg_here, one_more}

pub there : {A : Type 0} (z : A) (o : Option A) → is o ≡ true → o ≡ Some (or_blank z o)
there z None e = cc
there z (Some a) e = refl

pub absent : {A : Type 0} (o : Option A) → is o ≡ false → o ≡ None
absent None e = refl
absent (Some a) e = cc

-- what `if !b` tells
pub off : {b x : Bool} → b ≡ x → not b ≡ true → x ≡ false
off {b = true} e q = cc
off {b = false} e q = sym e

pub on : {b x : Bool} → b ≡ x → not b ≡ false → x ≡ true
on {b = true} e q = sym e
on {b = false} e q = cc

-- the peer that a leg names, zeros if none
abbrev pub named_peer : Leg → Bytes
named_peer g = or_blank (replicate 16 0) g.peer

abbrev pub no_answer : Answered
no_answer = record { msg2 = []; ephemeral = replicate 32 0; epoch = 0; replaces = false; sent = false }

-- what an answer has, blank for a dial
abbrev pub answer_of : Leg → Answered
answer_of g = or_blank no_answer (answered g.kind)

-- poll repeats the leg's msg1; poll reaps the leg
abbrev pub resend_due : ℕ → Leg → Bool
resend_due now g = option g.next false (due now)

abbrev pub past_deadline : ℕ → Leg → Bool
past_deadline now g = due now g.deadline

-- the n bytes from `at` on are bs
pub record Stands (bs : Bytes) (at n : ℕ) (s : Bytes) : Type 0 where
  pub small : n ≤ 128
  pub room : at + n ≤ length s
  pub size : length bs ≡ n
  pub is : take n (drop at s) ≡ bs

-- ---- where a flag says whether there is a value
is_flag : {A : Type 0} (x : Bool) (v : A) → x ≡ is (if x then Some v else None)
is_flag true v = refl
is_flag false v = refl

is_answer : (x : Bool) (a : Answered) → x ≡ is (answered (if x then Kind.Answer a else Kind.Dial))
is_answer true a = refl
is_answer false a = refl

answer_is : (x : Bool) (a : Answered) → (x ≡ false → a ≡ no_answer) → a ≡ or_blank no_answer (answered (if x then Kind.Answer a else Kind.Dial))
answer_is true a b = refl
answer_is false a b = b refl

no_answer_lem : (fs : List Bytes) → BlankCells fs → answer_from fs ≡ no_answer
unfolding more
no_answer_lem fs b = rw (b.answer_sent, b.replaces, b.epoch, b.digest, b.len2)

-- ---- cells, where they stand
module _ {s : Bytes} {i : ℕ} (f : FitLegs s) (h : i < leg_count s) where
  pub link_here : num (take 8 (drop (i * leg_width) s)) ≡ (leg_at s i).link
  link_here = ap (λ (a : ℕ). num (take 8 (drop a s))) (sym (add-zero (i * leg_width))) ∙ ap (λ (g : Leg). g.link) (leg_here s i f h)

  pub deadline_here : num (take 8 (drop (i * leg_width + at_deadline) s)) ≡ (leg_at s i).deadline
  deadline_here = ap (λ (g : Leg). g.deadline) (leg_here s i f h)

  pub lease_here : num (take 4 (drop (i * leg_width + at_lease) s)) ≡ (leg_at s i).lease
  lease_here = ap (λ (g : Leg). g.lease) (leg_here s i f h)

  pub sent_here : num (take 4 (drop (i * leg_width + at_sent) s)) ≡ (leg_at s i).sent
  sent_here = ap (λ (g : Leg). g.sent) (leg_here s i f h)

  pub answers_here : flag_of (take 1 (drop (i * leg_width + at_answer) s)) ≡ answers (leg_at s i)
  answers_here = is_answer (flag_of (take 1 (drop (i * leg_width + at_answer) s))) (answer_from (cuts (i * leg_width) 0 leg_ws s)) ∙ ap answers (leg_here s i f h)

  pub peer_here : option_bytes (take 1 (drop (i * leg_width + at_has_peer) s)) (take 16 (drop (i * leg_width + at_has_peer + 1) s)) ≡ (leg_at s i).peer
  peer_here = rw (one_more (i * leg_width) at_has_peer) (ap (λ (g : Leg). g.peer) (leg_here s i f h))

  pub next_here : option_num (take 1 (drop (i * leg_width + at_has_next) s)) (take 8 (drop (i * leg_width + at_has_next + 1) s)) ≡ (leg_at s i).next
  next_here = rw (one_more (i * leg_width) at_has_next) (ap (λ (g : Leg). g.next) (leg_here s i f h))

  answer_here : answer_from (cuts (i * leg_width) 0 leg_ws s) ≡ answer_of (leg_at s i)
  answer_here =
      answer_is (flag_of (take 1 (drop (i * leg_width + at_answer) s))) (answer_from (cuts (i * leg_width) 0 leg_ws s)) (λ e. no_answer_lem (cuts (i * leg_width) 0 leg_ws s) ((fit_here s i f h).dial e))
      ∙ ap answer_of (leg_here s i f h)

  pub marked_here : flag_of (take 1 (drop (i * leg_width + at_answer_sent) s)) ≡ (answer_of (leg_at s i)).sent
  marked_here = ap (λ (a : Answered). a.sent) answer_here

  pub replaces_here : flag_of (take 1 (drop (i * leg_width + at_replaces) s)) ≡ (answer_of (leg_at s i)).replaces
  replaces_here = ap (λ (a : Answered). a.replaces) answer_here

  pub epoch_here : num (take 8 (drop (i * leg_width + at_epoch) s)) ≡ (answer_of (leg_at s i)).epoch
  epoch_here = ap (λ (a : Answered). a.epoch) answer_here

  pub digest_here : take 32 (drop (i * leg_width + at_digest) s) ≡ (answer_of (leg_at s i)).ephemeral
  digest_here = ap (λ (a : Answered). a.ephemeral) answer_here

  stands : {bs : Bytes} (n o : ℕ) → n ≤ 128 → o + 128 ≤ leg_width → take n (take 128 (drop (i * leg_width + o) s)) ≡ bs → Stands bs (i * leg_width + o) n s
  stands n o p q e =
      let z : take n (take 128 (drop (i * leg_width + o) s)) ≡ take n (drop (i * leg_width + o) s) = take-take n 128 (drop (i * leg_width + o) s) p in
      record { small = p; room = omega arith; size = ap length (sym e ∙ z) ∙ length-take-le n (drop (i * leg_width + o) s) (rw length-drop (omega arith)); is = sym z ∙ e }

  pub msg1_here : {n : ℕ} → n ≡ byte_of (take 1 (drop (i * leg_width + at_msg1) s)) → Stands (leg_at s i).msg1 (i * leg_width + at_msg1_bytes) n s
  msg1_here {n} e =
      let k = (fit_here s i f h).msg1.kept.small in
      stands n at_msg1_bytes (omega arith) (lit≤ tt) (rw e (ap (λ (g : Leg). g.msg1) (leg_here s i f h)))

  pub msg2_here : {n : ℕ} → n ≡ byte_of (take 1 (drop (i * leg_width + at_msg2) s)) → Stands (answer_of (leg_at s i)).msg2 (i * leg_width + at_msg2_bytes) n s
  msg2_here {n} e =
      let k = (fit_here s i f h).msg2.kept.small in
      stands n at_msg2_bytes (omega arith) (lit≤ tt) (rw e (ap (λ (a : Answered). a.msg2) answer_here))

-- ---- whether a leg yields its msg2
module _ (bs : Bytes) (g : Leg) where
  pub stored_dial : answers g ≡ false → false ≡ is (stored_msg2 bs g)
  unfolding stored_msg2
  stored_dial e = rw (absent (answered g.kind) e)

  stored_answer : answers g ≡ true → stored_msg2 bs g ≡ (if not (answer_of g).sent || same bs g.msg1 then Some (answer_of g).msg2 else None)
  unfolding stored_msg2
  stored_answer e = go (answered g.kind) e
    where
      go : (o : Option Answered) → is o ≡ true
          → option o None (λ a. if not a.sent || same bs g.msg1 then Some a.msg2 else None)
          ≡ (if not (or_blank no_answer o).sent || same bs g.msg1 then Some (or_blank no_answer o).msg2 else None)
      go None q = cc
      go (Some a) q = refl

  pub stored_unsent : answers g ≡ true → (answer_of g).sent ≡ false → true ≡ is (stored_msg2 bs g)
  stored_unsent e q = rw (stored_answer e, q)

  stored_sent : answers g ≡ true → (answer_of g).sent ≡ true → same bs g.msg1 ≡ is (stored_msg2 bs g)
  stored_sent e q = rw (stored_answer e, q) (is_flag (same bs g.msg1) (answer_of g).msg2)

  -- the bytes are those of msg1, or not, by their lengths
  module _ (e : answers g ≡ true) (q : (answer_of g).sent ≡ true) {m at : ℕ} {s : Bytes} (k : Stands g.msg1 at m s) where
    pub stored_other : {n : ℕ} → length bs ≡ n → (m ≡ n → ⊥) → false ≡ is (stored_msg2 bs g)
    stored_other h d = sym (same_apart bs g.msg1 (λ z. d (sym k.size ∙ sym z ∙ h))) ∙ stored_sent e q

    pub stored_same : {r : Bool} {n : ℕ} → m ≡ n → r ≡ same bs (take n (drop at s)) → r ≡ is (stored_msg2 bs g)
    stored_same z h = h ∙ rw (← z, k.is) (stored_sent e q)
