-- The bytes of a leg: what they show is the leg, and a leg that was read at a place is the one that the region shows there.
use Rattle.std.specs.Prelude.{◌≡◌, refl, Bool, false, List, [], ◌∷◌, ◌++◌, map, ℕ, ◌+◌, ◌*◌, ◌≤◌, ◌<◌, length, take, drop, get_or, replicate, if◌then◌else◌, None, Option, Some, option_map}
use Rattle.std.proofs.Common.{sym, ap, ◌∙◌, subst, append_assoc, append-nil, arith, lit≤, length-take-le, drop-drop, length-drop, Fits}
use Rattle.std.specs.Int.{w32, w64}
use Rattle.rules.specs.Base.{one, option, is, Bytes}
use Rattle.rules.specs.Field.{more, digits}
use Rattle.rules.specs.Data.{Kind}
use Rattle.lib_laws.specs.Shift.{fit_at, shown}
use Rattle.lib_laws.specs.Splice.{length_digits, Wrote}
use Rattle.lib_laws.specs.Round.{more_digits}
use Rattle.lib_laws.specs.Cell.{num, flag_of, text_of, Text, or_blank, flag_cell, number_cells, bytes_cells, optional_number, optional_bytes, number_shows, bytes_show, flag_shows, flag_code}
use Rattle.lib_laws.specs.Buffer.{kept_empty}
use Rattle.lib_laws.specs.Chunk.{chunks, joined}
use Rattle.lib_laws.specs.Fields.{cuts, cuts_at, cuts_joined, sum}
use Rattle.node_addr.specs.Alike.{part_of}
use Rattle.node_addr.specs.Place.{MessageCell, message_cell}
use Rattle.node_addr.proofs.Filled.{kept_padded}
use Rattle.node_addr.specs.Layout.{message_width}
use Rattle.legs_entry.specs.Layout.{leg_ws, at_msg1, at_msg2, leg_cap, leg_width}
use Rattle.legs_entry.specs.declared.leg.Answer as answer
use Rattle.legs_entry.specs.declared.leg.Leg as leg
use Rattle.legs_entry.specs.View.{leg_from, leg_of, BlankCells, FitCells, FitLegCell, FitLegs, leg_count, no_leg, leg_at, view_kind, view_leg}

-- ---- what is written
abbrev pub peer_of : leg.Leg → Option Bytes
peer_of l = option_map (λ p. p.0) l.peer

-- of an answer, zeros for a dial
abbrev pub sent_of : Option answer.Answer → Bool
sent_of o = option o false λ a. a.sent

abbrev pub replaces_of : Option answer.Answer → Bool
replaces_of o = option o false λ a. a.replaces

abbrev pub epoch_of : Option answer.Answer → ℕ
epoch_of o = option o 0 λ a. a.epoch

abbrev pub digest_of : Option answer.Answer → Bytes
digest_of o = option o (replicate 32 0) λ a. a.digest.0

abbrev pub len2_of : Option answer.Answer → ℕ
len2_of o = option o 0 λ a. a.msg2.len

abbrev pub msg2_of : Option answer.Answer → Bytes
msg2_of o = option o (replicate 128 0) λ a. a.msg2.bytes

abbrev pub leg_fields : leg.Leg → List Bytes
leg_fields l = digits 8 l.link.0 ∷ digits 8 l.deadline ∷ flag_cell l.next ∷ digits 8 (or_blank 0 l.next) ∷ digits 4 l.sent ∷ digits 4 l.lease
    ∷ flag_cell l.answer ∷ flag_cell (peer_of l) ∷ or_blank (replicate 16 0) (peer_of l)
    ∷ (one (sent_of l.answer) ∷ []) ∷ (one (replaces_of l.answer) ∷ []) ∷ digits 8 (epoch_of l.answer) ∷ digest_of l.answer
    ∷ (l.msg1.len ∷ []) ∷ l.msg1.bytes ∷ (len2_of l.answer ∷ []) ∷ msg2_of l.answer ∷ []

unfoldable pub leg_bytes : leg.Leg → Bytes
leg_bytes l = joined (leg_fields l)

-- as the writers put it: the times, the ends, the messages
abbrev pub time_bytes : leg.Leg → Bytes
time_bytes l = digits 8 l.link.0 ++ digits 8 l.deadline ++ number_cells l.next ++ digits 4 l.sent ++ digits 4 l.lease

abbrev pub answer_bytes : Option answer.Answer → Bytes
answer_bytes o = (one (sent_of o) ∷ []) ++ (one (replaces_of o) ∷ []) ++ digits 8 (epoch_of o) ++ digest_of o

abbrev pub end_bytes : leg.Leg → Bytes
end_bytes l = flag_cell l.answer ++ bytes_cells 16 (peer_of l) ++ answer_bytes l.answer

abbrev pub msg2_bytes : Option answer.Answer → Bytes
msg2_bytes o = (len2_of o ∷ []) ++ msg2_of o

bytes_are : (l : leg.Leg) → time_bytes l ++ end_bytes l ++ message_cell l.msg1 ++ msg2_bytes l.answer ≡ leg_bytes l
unfolding leg_bytes joined message_cell
bytes_are l = regroup (digits 8 l.link.0) (digits 8 l.deadline) (flag_cell l.next) (digits 8 (or_blank 0 l.next)) (digits 4 l.sent) (digits 4 l.lease)
    (flag_cell l.answer) (flag_cell (peer_of l)) (or_blank (replicate 16 0) (peer_of l))
    (one (sent_of l.answer) ∷ []) (one (replaces_of l.answer) ∷ []) (digits 8 (epoch_of l.answer)) (digest_of l.answer)
    (l.msg1.len ∷ []) l.msg1.bytes (len2_of l.answer ∷ []) (msg2_of l.answer)
  where
    regroup : (a b c d e f g h i j k m n o p q r : Bytes)
        → (a ++ b ++ (c ++ d) ++ e ++ f) ++ (g ++ (h ++ i) ++ (j ++ k ++ m ++ n)) ++ (o ++ p) ++ (q ++ r)
        ≡ a ++ (b ++ (c ++ (d ++ (e ++ (f ++ (g ++ (h ++ (i ++ (j ++ (k ++ (m ++ (n ++ (o ++ (p ++ (q ++ (r ++ []))))))))))))))))
    regroup a b c d e f g h i j k m n o p q r = simp (append_assoc, append-nil)

pub put_leg_is : (l : leg.Leg) {xs : Bytes} {at : ℕ} {ys : Bytes} {r : ℕ}
    → Wrote xs at leg_width (time_bytes l ++ end_bytes l ++ message_cell l.msg1 ++ msg2_bytes l.answer) ys r → Wrote xs at leg_width (leg_bytes l) ys r
put_leg_is l {xs} {at} {ys} {r} w = subst (λ (b : Bytes). Wrote xs at leg_width b ys r) (bytes_are l) w

-- ---- what was written is read

-- each array is one of its type
pub record FitLeg (l : leg.Leg) : Type 0 where
  pub peer : option (peer_of l) (Unit {0}) (λ p. length p ≡ 16)
  pub digest : length (digest_of l.answer) ≡ 32

-- each number is one of its type
pub record WideLeg (l : leg.Leg) : Type 0 where
  pub link : Fits w64 l.link.0
  pub deadline : Fits w64 l.deadline
  pub next : Fits w64 (or_blank 0 l.next)
  pub sent : Fits w32 l.sent
  pub lease : Fits w32 l.lease
  pub epoch : Fits w64 (epoch_of l.answer)

length_peer : (o : Option Bytes) → option o (Unit {0}) (λ p. length p ≡ 16) → length (or_blank (replicate 16 0) o) ≡ 16
length_peer None h = refl
length_peer (Some p) h = h

-- msg2 is a message, or zeros
msg2_text : (o : Option answer.Answer) → Text 128 (len2_of o ∷ []) (msg2_of o)
msg2_text None = record { size = refl; kept = kept_empty 128 }
msg2_text (Some a) = record { size = refl; kept = kept_padded a.msg2 }

leg_widths : (l : leg.Leg) → FitLeg l → map length (leg_fields l) ≡ leg_ws
leg_widths l f = rw (
  length_digits 8 l.link.0,
  length_digits 8 l.deadline,
  length_digits 8 (or_blank 0 l.next),
  length_digits 4 l.sent,
  length_digits 4 l.lease,
  length_peer (peer_of l) f.peer,
  length_digits 8 (epoch_of l.answer),
  f.digest,
  l.msg1.size,
  (msg2_text l.answer).kept.size,
)

cuts_bytes : (l : leg.Leg) → FitLeg l → cuts 0 0 leg_ws (joined (leg_fields l)) ≡ leg_fields l
cuts_bytes l f = ap (λ (ws : List ℕ). cuts 0 0 ws (joined (leg_fields l))) (sym (leg_widths l f)) ∙ cuts_joined (leg_fields l)

blank_fields : (l : leg.Leg) → flag_of (flag_cell l.answer) ≡ false → BlankCells (leg_fields l)
unfolding digits
blank_fields l e = go l.answer refl e
  where
    go : (o : Option answer.Answer) → l.answer ≡ o → flag_of (flag_cell o) ≡ false → BlankCells (leg_fields l)
    go None q e = record { answer_sent = rw q; replaces = rw q; epoch = rw q; digest = rw q; len2 = rw q; msg2 = rw q }
    go (Some a) q e = cc

fit_fields : (l : leg.Leg) → FitLeg l → FitCells (leg_fields l)
fit_fields l f = record {
  next = optional_number l.next;
  answer = flag_code (is l.answer);
  peer = optional_bytes 16 (peer_of l) f.peer;
  answer_sent = flag_code (sent_of l.answer);
  replaces = flag_code (replaces_of l.answer);
  msg1 = record { size = refl; kept = kept_padded l.msg1 };
  msg2 = msg2_text l.answer;
  dial = blank_fields l;
}

pub fit_bytes : (l : leg.Leg) → FitLeg l → FitLegCell (leg_bytes l)
unfolding leg_bytes
fit_bytes l f = subst FitCells (sym (cuts_bytes l f)) (fit_fields l f)

-- the answer that its cells show
kind_shows : (o : Option answer.Answer) → Fits w64 (epoch_of o)
    → (if flag_of (flag_cell o) then Kind.Answer (record {
      msg2 = text_of (len2_of o ∷ []) (msg2_of o);
      ephemeral = digest_of o;
      epoch = num (digits 8 (epoch_of o));
      replaces = flag_of (one (replaces_of o) ∷ []);
      sent = flag_of (one (sent_of o) ∷ []);
    }) else Kind.Dial) ≡ view_kind o
kind_shows None h = refl
kind_shows (Some a) h = rw (more_digits 8 a.epoch h.fits, flag_shows a.replaces, flag_shows a.sent)

pub leg_bytes_lem : (l : leg.Leg) → FitLeg l → WideLeg l → leg_of (leg_bytes l) ≡ view_leg l
unfolding leg_bytes
leg_bytes_lem l f w =
    ap leg_from (cuts_bytes l f)
    ∙ rw (
      more_digits 8 l.link.0 w.link.fits,
      more_digits 8 l.deadline w.deadline.fits,
      number_shows l.next w.next.fits,
      more_digits 4 l.sent w.sent.fits,
      more_digits 4 l.lease w.lease.fits,
      bytes_show 16 (peer_of l),
      kind_shows l.answer w.epoch,
    )

-- ---- the cells of the i-th leg, where they stand
pub cells_here : (s : Bytes) (i : ℕ) → FitLegs s → i < leg_count s → cuts (i * leg_width) 0 leg_ws s ≡ cuts 0 0 leg_ws (get_or (chunks leg_width leg_cap s) i [])
unfolding sum
cells_here s i f h = cuts_at leg_width leg_cap s i [] 0 leg_ws (omega arith) (lit≤ tt) (omega arith)

pub fit_here : (s : Bytes) (i : ℕ) → FitLegs s → i < leg_count s → FitCells (cuts (i * leg_width) 0 leg_ws s)
fit_here s i f h = subst FitCells (sym (cells_here s i f h)) (fit_at leg_of i [] f.kept h)

pub leg_here : (s : Bytes) (i : ℕ) → FitLegs s → i < leg_count s → leg_from (cuts (i * leg_width) 0 leg_ws s) ≡ leg_at s i
leg_here s i f h = ap leg_from (cells_here s i f h) ∙ shown leg_of i [] no_leg f.kept h

num_zeros : num (replicate 8 0) ≡ 0
unfolding more
num_zeros = refl

pub one_more : (a o : ℕ) → a + o + 1 ≡ a + (o + 1)
one_more a o = omega arith

-- a message's cell is canonical
module _ {s : Bytes} {i : ℕ} (f : FitLegs s) (h : i < leg_count s) where
  cell_at : (o : ℕ) → o + message_width ≤ leg_width → Text 128 (take 1 (drop (i * leg_width + o) s)) (take 128 (drop (i * leg_width + (o + 1)) s)) → MessageCell (take message_width (drop (i * leg_width + o) s))
  cell_at o p t = record {
    size = length-take-le message_width (drop (i * leg_width + o) s) (rw length-drop (omega arith));
    text = rw (part_of 0 1 message_width (drop (i * leg_width + o) s) (lit≤ tt), tail_is) t;
  }
    where
      tail_is : take 128 (drop 1 (take message_width (drop (i * leg_width + o) s))) ≡ take 128 (drop (i * leg_width + (o + 1)) s)
      tail_is =
          part_of 1 128 message_width (drop (i * leg_width + o) s) (lit≤ tt) ∙ ap (λ (u : Bytes). take 128 u) (drop-drop 1 (i * leg_width + o) s)
          ∙ ap (λ (k : ℕ). take 128 (drop k s)) (one_more (i * leg_width) o)

  pub msg1_cell : MessageCell (take message_width (drop (i * leg_width + at_msg1) s))
  msg1_cell = cell_at at_msg1 (lit≤ tt) (fit_here s i f h).msg1

  pub msg2_cell : MessageCell (take message_width (drop (i * leg_width + at_msg2) s))
  msg2_cell = cell_at at_msg2 (lit≤ tt) (fit_here s i f h).msg2
