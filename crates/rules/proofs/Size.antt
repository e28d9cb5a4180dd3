-- What a call makes: the table within its widths, each output too, and all that it writes within 10,240 bytes.
use Rattle.std.specs.Prelude.{if◌then◌else◌, None, Option, Some}
use mathlib.Core.Path.{◌≡◌}
use mathlib.Core.Bool.{Bool, true, false, not, ◌&&◌, ◌||◌}
use mathlib.Core.List.{List, [], ◌∷◌, ◌++◌, map}
use Prim.Native.Nat.{ℕ, suc, ◌+◌, ◌-◌, ◌*◌, ◌^◌, ◌≤◌, ◌<◌, min}
use native.Mathlib.Omega.{arith}
use borrow.Author.Tests.{eqb-false}
use lib.Dec.{eqb, leb, ltb}
use lib.ListN.{length, length-append, length-map}
use Rattle.rules.specs.Base.{option, is, or_else, Bytes, same, empty, find, any, keep, tally, All}
use Rattle.rules.specs.Std.{before}
use Rattle.rules.specs.Data.{Pair, same_pair, APeer, Proven, LinkRec, Answered, Leg, Held, Table, Hello, Call, Source, Why, Transition, Installed, Output, Step, Result}
use Rattle.rules.specs.Data.{Opened, Resend, Rekey, Install, Reset, Retire, Free, Retry, Reject, Promote, Replace, Keep}
use Rattle.rules.specs.Links.{numbered, indexed, in_use, hold, once, addresses, retired, retiring, released, releasing}
use Rattle.rules.specs.Legs.{on_link, answered, dialing, resent, mark_sent, mark_unsent, stored_msg2, due, overdue, resends, wake, next_wake}
use Rattle.rules.specs.Settle.{still, writes, ◌▸◌, leg_at, held_at, link_at, named, numbering, entering, dial, ends, abandon, Stored, stored_on, stored_in, stored, full, arrived, closes, retries, removed, remove, denied, asked, displaces, answer, stamp, admitted, admit, msg1, promote, sent, unsent, dialed, moveto, own, msg2, restarted, heard, abandons, poll, retirings, close_legs, removes, close, crowded, add_path, release, step, places}
use Rattle.rules.specs.Field.{pair_bytes, message_bytes, frame}
use Rattle.rules.specs.Output.{pairs_bytes, list_bytes, install_bytes, output_bytes, output_record, outputs}
use Rattle.rules.specs.Record.{read_call}
use Rattle.rules.specs.Entry.{call}
use Rattle.rules.specs.Bounds.{IsByte, Word, Exactly, AtMost, IfAny, PairFits, LinkFits, LegFits, HeldFits, Widths, Limits, Bounds}
use Rattle.rules.proofs.Lists.{if_by, option_by, tally_append, all_append, all_map}
use Rattle.rules.proofs.Good.{own_link}
use Rattle.rules.proofs.Fields.{length_digits}
use Rattle.rules.proofs.CallFits.{HelloFits, DialFits, CallFits, accepted_fits}
use Rattle.rules.proofs.Order.{all_find, all_without, all_kept, all_mapped, length_less, length_keep}
use Rattle.rules.proofs.Widths.{leg_fits, held_fits, link_fits, answered_fits, if_any, hold_fits, resent_fits, sent_fits, unsent_fits, widths_dial, widths_answer, widths_legs, widths_ends, widths_removed, widths_stamp, widths_promote, widths_dialed, widths_moveto, widths_renewed, widths_heard, widths_close_legs, widths_path, widths_release}

-- ---- outputs within their widths

-- at most n pairs
pub record ListFits (n : ℕ) (s : List Pair) : Type 0 where
  pub size : length s ≤ n
  pub each : All PairFits s

pub record InstalledFits (i : Installed) : Type 0 where
  pub peer : Exactly 16 i.peer
  pub link : Word i.link
  pub pair : PairFits i.pair
  pub lease : i.lease < 2 ^ 32

-- a link's messages and lists: five pairs to a link, and 32 links to a Close
abbrev pub OutputFits : Output → Type 0
OutputFits (Opened n) = Word n
OutputFits (Output.Answer n b m) = Word n × AtMost 128 m
OutputFits (Resend n m) = Word n × AtMost 128 m
OutputFits (Rekey p a b) = Exactly 16 p
OutputFits (Install i) = InstalledFits i
OutputFits (Reset p k) = Exactly 16 p
OutputFits (Output.Remove p w) = Exactly 16 p
OutputFits (Retire n ps) = Word n × ListFits 5 ps
OutputFits (Output.Release n ps) = Word n × ListFits 1 ps
OutputFits (Output.Close ps) = ListFits 160 ps
OutputFits (Free l) = l < 2 ^ 32
OutputFits (Retry p) = Exactly 16 p
OutputFits (Reject o w) = IfAny (λ a. Exactly 16 a.0) o
OutputFits (Output.Wake o) = IfAny Word o

-- ---- their bytes

-- the most bytes that an output takes
abbrev pub cost : Output → ℕ
cost (Opened n) = 12
cost (Output.Answer n b m) = 143
cost (Resend n m) = 142
cost (Rekey p a b) = 22
cost (Install i) = 87
cost (Reset p k) = 21
cost (Output.Remove p w) = 21
cost (Retire n ps) = 13 + 53 * length ps
cost (Output.Release n ps) = 13 + 53 * length ps
cost (Output.Close ps) = 5 + 53 * length ps
cost (Free l) = 8
cost (Retry p) = 20
cost (Reject o w) = 23
cost (Output.Wake o) = 13

pair_size : (p : Pair) → PairFits p → length (pair_bytes p) ≤ 53
unfolding pair_bytes
pair_size p f = simp (length-append, length_digits) (omega (arith, f.addr.size))

pairs_size : (s : List Pair) → All PairFits s → length (pairs_bytes s) ≤ 53 * length s
pairs_size [] f = omega arith
pairs_size (p ∷ s) f = omega (arith, length-append (pair_bytes p) (pairs_bytes s), pair_size p f.0, pairs_size s f.1)

list_size : (s : List Pair) → All PairFits s → length (list_bytes s) ≤ 1 + 53 * length s
unfolding list_bytes
list_size s f = simp (length-append, length_digits) (omega (arith, pairs_size s f))

message_size : (m : Bytes) → AtMost 128 m → length (message_bytes m) ≤ 130
unfolding message_bytes
message_size m f = simp (length-append, length_digits) (omega (arith, f.size))

install_size : (i : Installed) → InstalledFits i → length (install_bytes i) ≤ 83
unfolding install_bytes
install_size i f = simp (length-append, length_digits) (omega (arith, f.peer.size, pair_size i.pair f.pair))

output_size : (o : Output) → OutputFits o → length (output_bytes o) + 4 ≤ cost o
unfolding output_bytes
output_size (Opened n) f = simp length_digits (omega arith)
output_size (Output.Answer n b m) f = simp (length-append, length_digits) (omega (arith, message_size m f.1))
output_size (Resend n m) f = simp (length-append, length_digits) (omega (arith, message_size m f.1))
output_size (Rekey p a b) f = simp length-append (omega (arith, f.size))
output_size (Install i) f = omega (arith, install_size i f)
output_size (Reset p k) f = simp length-append (omega (arith, f.size))
output_size (Output.Remove p w) f = simp length-append (omega (arith, f.size))
output_size (Retire n ps) f = simp (length-append, length_digits) (omega (arith, list_size ps f.1.each))
output_size (Output.Release n ps) f = simp (length-append, length_digits) (omega (arith, list_size ps f.1.each))
output_size (Output.Close ps) f = omega (arith, list_size ps f.each)
output_size (Free l) f = simp length_digits (omega arith)
output_size (Retry p) f = omega (arith, f.size)
output_size (Reject None w) f = omega arith
output_size (Reject (Some (p, s)) w) f = simp length-append (omega (arith, f.size))
output_size (Output.Wake None) f = omega arith
output_size (Output.Wake (Some n)) f = simp length_digits (omega arith)

record_size : (o : Output) → length (output_record o) ≡ length (output_bytes o) + 4
unfolding output_record frame
record_size o = simp (length-append, length_digits) (omega arith)

pub outputs_size : (os : List Output) → All OutputFits os → length (outputs os) ≤ tally cost os
unfolding outputs
outputs_size [] f = omega arith
outputs_size (o ∷ s) f = omega (arith, length-append (output_record o) (outputs s), record_size o, output_size o f.0, outputs_size s f.1)

-- outputs within their widths, of at most n bytes
pub record Wrote (n : ℕ) (os : List Output) : Type 0 where
  pub fits : All OutputFits os
  pub cost : tally cost os ≤ n

wrote_nothing : {n : ℕ} → Wrote n []
wrote_nothing = record { fits = tt; cost = omega arith }

wrote_both : {l m n : ℕ} {s u : List Output} → Wrote m s → Wrote n u → m + n ≤ l → Wrote l (s ++ u)
wrote_both {s = s} {u = u} x y h = record { fits = all_append OutputFits s u x.fits y.fits; cost = omega (arith, tally_append cost s u, x.cost, y.cost) }

-- a step: its table within the widths, and what it wrote
pub record Makes (n : ℕ) (s : Step) : Type 0 where
  pub widths : Widths s.table
  pub wrote : Wrote n s.outs

makes : {n : ℕ} {s : Step} → Widths s.table → All OutputFits s.outs → tally cost s.outs ≤ n → Makes n s
makes k f c = record { widths = k; wrote = record { fits = f; cost = c } }

makes_still : {n : ℕ} {t : Table} → Widths t → Makes n (still t)
makes_still k = record { widths = k; wrote = wrote_nothing }

both : {l m n : ℕ} {s : Step} (f : Table → Step) → Makes m s → Makes n (f s.table) → m + n ≤ l → Makes l (s ▸ f)
unfolding ◌▸◌
both f x y h = record { widths = y.widths; wrote = wrote_both x.wrote y.wrote h }

within : {n : ℕ} (m : ℕ) {s : Step} → m ≤ n → Makes m s → Makes n s
within m h x = makes x.widths x.wrote.fits (omega (arith, x.wrote.cost))

-- ---- what is listed

once_fits : (seen s : List Pair) → All PairFits s → ListFits (length s) (once seen s)
unfolding once
once_fits seen [] f = record { size = omega arith; each = tt }
once_fits seen (p ∷ s) f = if_by (ListFits (suc (length s))) (any (same_pair p) seen)
    (λ e. let x = once_fits seen s f.1 in record { size = omega (arith, x.size); each = x.each })
    (λ e. let x = once_fits (p ∷ seen) s f.1 in record { size = omega (arith, x.size); each = (f.0, x.each) })

-- a link's setup and its four paths
retiring_fits : (n : ℕ) (s : List LinkRec) → All LinkFits s → ListFits 5 (retiring n s)
unfolding retiring addresses
retiring_fits n s k = option_by (ListFits 5) (find (numbered n) s) (λ e. record { size = omega arith; each = tt }) λ r e.
    let f = all_find LinkFits (numbered n) s r e k in
    let x = once_fits [] (r.setup ∷ map (λ w. w.pair) r.paths) (f.setup, all_mapped (λ w. w.pair) PairFits r.paths f.paths) in
    record {
      size = omega (arith, f.four, x.size, length-map r.paths (λ w. w.pair), length_keep (λ p. not (in_use p (retired n s))) (addresses r));
      each = all_kept PairFits (λ p. not (in_use p (retired n s))) (addresses r) x.each;
    }

retirings_fits : (gs : List Leg) (s : List LinkRec) → All LinkFits s → ListFits (5 * length gs) (retirings (map (λ g. g.link) gs) s)
unfolding retirings
retirings_fits [] s k = record { size = omega arith; each = tt }
retirings_fits (g ∷ gs) s k =
    let n : ℕ = g.link in
    let x = retiring_fits n s k in
    let y = retirings_fits gs (retired n s) (all_without LinkFits (numbered n) s k) in
    record {
      size = omega (arith, length-append (retiring n s) (retirings (map (λ g. g.link) gs) (retired n s)), x.size, y.size);
      each = all_append PairFits (retiring n s) (retirings (map (λ g. g.link) gs) (retired n s)) x.each y.each;
    }

-- ---- stored answers

pub record StoredFits (o : Stored) : Type 0 where
  pub link : Word o.link
  pub msg2 : AtMost 128 o.msg2

stored_msg2_lem : (b : Bytes) (g : Leg) → LegFits g → IfAny (AtMost 128) (stored_msg2 b g)
unfolding stored_msg2
stored_msg2_lem b g f = option_by (IfAny (AtMost 128)) (answered g.kind) (λ e. tt)
    (λ a e. if_by (IfAny (AtMost 128)) (not a.sent || same b g.msg1) (λ z. (answered_fits g.kind a e f.kind).msg2) (λ z. tt))

stored_fits : (p : Pair) (b : Bytes) (gs : List Leg) (s : List LinkRec) → All LegFits gs → All LinkFits s → IfAny StoredFits (stored_in p b gs s)
unfolding stored_in stored_on
stored_fits p b gs [] f k = tt
stored_fits p b gs (r ∷ s) f k = search (first, here, stored_fits p b gs s f k.1)
  where
    first : (o q : Option Stored) → IfAny StoredFits o → IfAny StoredFits q → IfAny StoredFits (or_else o q)
    first None q x y = y
    first (Some a) q x y = x

    here : IfAny StoredFits (stored_on p b gs r)
    here = if_by (IfAny StoredFits) (indexed p r)
        (λ e. option_by (IfAny StoredFits) (find (on_link r.no) gs) (λ z. tt)
        (λ g z. option_by (IfAny StoredFits) (stored_msg2 b g) (λ y. tt)
        (λ m y. record { link = k.0.no; msg2 = if_any (AtMost 128) (stored_msg2 b g) m y (stored_msg2_lem b g (all_find LegFits (on_link r.no) gs g z f)) })))
        (λ e. tt)

-- ---- poll's and wake's times

resends_wrote : (now : ℕ) (s : List Leg) → All LegFits s → Wrote (142 * length s) (resends now s)
unfolding resends
resends_wrote now [] f = record { fits = tt; cost = omega arith }
resends_wrote now (g ∷ s) f = go (option g.next false (due now)) (resends_wrote now s f.1)
  where
    rest : List Leg
    rest = keep (λ g. option g.next false (due now)) s

    go : (b : Bool) → Wrote (142 * length s) (map (λ g. Resend g.link g.msg1) rest)
        → Wrote (142 * suc (length s)) (map (λ g. Resend g.link g.msg1) (if b then g ∷ rest else rest))
    go true x = record { fits = ((f.0.link, f.0.msg1), x.fits); cost = omega (arith, x.cost) }
    go false x = record { fits = x.fits; cost = omega (arith, x.cost) }

wake_fits : (s : List Leg) → All LegFits s → IfAny Word (next_wake s)
unfolding next_wake wake
wake_fits [] f = tt
wake_fits (g ∷ s) f = soonest (next_wake s) (wake_fits s f.1)
  where
    own : Word (wake g)
    own = option_by Word g.next (λ e. f.0.deadline) (λ n e. if_by Word (ltb n g.deadline) (λ z. if_any Word g.next n e f.0.next) (λ z. f.0.deadline))

    soonest : (o : Option ℕ) → IfAny Word o → Word (option o (wake g) (λ n. min (wake g) n))
    soonest None x = own
    soonest (Some n) x = let w = own in omega arith

-- ---- legs that end and holders that go: a leg gives up 286 bytes, a holder 299

pub record Spends (t : Table) (s : Step) : Type 0 where
  pub widths : Widths s.table
  pub fits : All OutputFits s.outs
  pub cost : tally cost s.outs + 286 * length s.table.legs + 299 * length s.table.held ≤ 286 * length t.legs + 299 * length t.held

spends_still : (t : Table) → Widths t → Spends t (still t)
spends_still t k = record { widths = k; fits = tt; cost = omega arith }

spends_both : {t : Table} {s : Step} (f : Table → Step) → Spends t s → Spends s.table (f s.table) → Spends t (s ▸ f)
unfolding ◌▸◌
spends_both {t} {s} f x y = record {
  widths = y.widths;
  fits = all_append OutputFits s.outs (f s.table).outs x.fits y.fits;
  cost = omega (arith, tally_append cost s.outs (f s.table).outs, x.cost, y.cost);
}

module _ (t : Table) (k : Widths t) where
  spends_ends : (g : Leg) → leg_at g.link t ≡ Some g → Spends t (ends g t)
  unfolding ends
  spends_ends g e =
      let f = leg_fits t k g.link g e in
      let x = retiring_fits g.link t.links k.links in
      record { widths = widths_ends t k g; fits = (f.lease, ((f.link, x), tt)); cost = omega (arith, x.size, length_less (on_link g.link) t.legs g e) }

  spends_abandon : (n : ℕ) → Spends t (abandon n t)
  unfolding abandon
  spends_abandon n = option_by (Spends t) (leg_at n t) (λ e. spends_still t k) (λ g e. spends_ends g (own_link t n g e))

  spends_removed : (now : ℕ) (p : Bytes) (h : Held) → Word now → Exactly 16 p → held_at p t ≡ Some h → Spends t (removed now p Why.Closed h t)
  unfolding removed
  spends_removed now p h w q e = record {
    widths = widths_removed t k now p Why.Closed h w e;
    fits = (q, (((held_fits t k p h e).link, retiring_fits h.link t.links k.links), tt));
    cost = omega (arith, (retiring_fits h.link t.links k.links).size, length_less (named p) t.held h e);
  }

  spends_remove : (now : ℕ) (p : Bytes) → Word now → Exactly 16 p → Spends t (remove now p Why.Closed t)
  unfolding remove
  spends_remove now p w q = option_by (Spends t) (held_at p t) (λ e. spends_still t k) (λ h e. spends_removed now p h w q e)

spends_abandons : (ns : List ℕ) (t : Table) → Widths t → Spends t (abandons ns t)
unfolding abandons
spends_abandons [] t k = spends_still t k
spends_abandons (n ∷ ns) t k = let x = spends_abandon t k n in spends_both (abandons ns) x (spends_abandons ns _ x.widths)

spends_removes : (now : ℕ) (ps : List Bytes) (t : Table) → Word now → All (Exactly 16) ps → Widths t → Spends t (removes now ps t)
unfolding removes
spends_removes now [] t w q k = spends_still t k
spends_removes now (p ∷ ps) t w q k = let x = spends_remove t k now p w q.0 in spends_both (removes now ps) x (spends_removes now ps _ w q.1 x.widths)

-- ---- one call

frees : (s : List Leg) → All LegFits s → Wrote (8 * length s) (map (λ g. Free g.lease) s)
frees [] f = record { fits = tt; cost = omega arith }
frees (g ∷ s) f = let x = frees s f.1 in record { fits = (f.0.lease, x.fits); cost = omega (arith, x.cost) }

Q : Step → Type 0
Q s = Makes 10_240 s

R : Result → Type 0
R d = Makes 10_240 d.step

module _ (t : Table) (k : Widths t) (l : Limits t) where
  makes_abandon : (n : ℕ) → Q (abandon n t)
  unfolding Q
  makes_abandon n = let x = spends_abandon t k n in makes x.widths x.fits (omega (arith, x.cost, l.links, l.owners))

  makes_poll : (now : ℕ) → Q (poll now t)
  unfolding poll ◌▸◌ Q
  makes_poll now =
      let u : Step = abandons (overdue now t.legs) t in
      let x = spends_abandons (overdue now t.legs) t k in
      let y = resends_wrote now u.table.legs x.widths.legs in
      record {
        widths = x.widths;
        wrote = record {
          fits = all_append OutputFits u.outs (resends now u.table.legs) x.fits y.fits;
          cost = omega (arith, tally_append cost u.outs (resends now u.table.legs), x.cost, y.cost, l.links, l.owners);
        };
      }

  wrote_close_legs : Wrote (5 + 273 * length t.legs) (close_legs t).outs
  unfolding close_legs
  wrote_close_legs =
      let ps : List Pair = retirings (map (λ g. g.link) t.legs) t.links in
      let x = retirings_fits t.legs t.links k.links in
      let y : Wrote (5 + 265 * length t.legs) (if empty ps then [] else Output.Close ps ∷ []) = if_by (Wrote (5 + 265 * length t.legs)) (empty ps) (λ e. wrote_nothing)
      (λ e. record { fits = (record { size = omega (arith, x.size, l.links, l.owners); each = x.each }, tt); cost = omega (arith, x.size) }) in
      wrote_both (frees t.legs k.legs) y (omega arith)

  -- at most 9,573 bytes, with 32 held peers
  makes_close : (now : ℕ) → Word now → Q (close now t)
  unfolding close close_legs ◌▸◌ Q
  makes_close now w =
      let u : Step = close_legs t in
      let ps : List Bytes = map (λ h. h.peer) t.held in
      let fit : All (Exactly 16) ps = all_mapped (λ h. h.peer) (Exactly 16) t.held (all_map HeldFits (λ h. Exactly 16 h.peer) (λ h f. f.peer) t.held k.held) in
      let x = wrote_close_legs in
      let y = spends_removes now ps u.table w fit (widths_close_legs t k) in
      let v : List Output = (removes now ps u.table).outs in
      makes y.widths (all_append OutputFits u.outs v x.fits y.fits) (omega (arith, tally_append cost u.outs v, x.cost, y.cost, l.links, l.owners))

-- a refused call changes nothing; past refusal 4 the next number has one after it
makes_numbering : (t : Table) (d : Result) → Widths t → (Word (t.next + 1) → R d) → R (numbering t d)
unfolding numbering R
makes_numbering t d k f = if_by R (eqb t.next (2 ^ 64 - 1)) (λ e. makes_still k) (λ e. f (omega (arith, k.next, eqb-false t.next (2 ^ 64 - 1) e)))

makes_entering : (p : Bytes) (t : Table) (d : Result) → Widths t → R d → R (entering p t d)
unfolding entering R
makes_entering p t d k x = if_by R (leb 32 (length t.links)) (λ a. makes_still k) (λ a. if_by R (not (any (same p) (places t)) && leb 32 (length (places t))) (λ b. makes_still k) (λ b. x))

-- ---- parts of calls

module _ (t : Table) (k : Widths t) where
  makes_removed : (now : ℕ) (p : Bytes) (why : Why) (h : Held) → Word now → Exactly 16 p → held_at p t ≡ Some h → Makes 319 (removed now p why h t)
  unfolding removed
  makes_removed now p why h w q e =
      let x : ListFits 5 (if closes why then retiring h.link t.links else []) =
      if_by (ListFits 5) (closes why) (λ e. retiring_fits h.link t.links k.links) (λ e. record { size = omega arith; each = tt }) in
      let y : Wrote 20 (if retries why then Retry p ∷ [] else []) = if_by (Wrote 20) (retries why) (λ e. record { fits = (q, tt); cost = omega arith }) (λ e. wrote_nothing) in
      makes (widths_removed t k now p why h w e) (q, (((held_fits t k p h e).link, x), y.fits)) (omega (arith, x.size, y.cost))

  makes_ends : (g : Leg) → LegFits g → Makes 286 (ends g t)
  unfolding ends
  makes_ends g f = let x = retiring_fits g.link t.links k.links in makes (widths_ends t k g) (f.lease, ((f.link, x), tt)) (omega (arith, x.size))

  makes_answer : (now : ℕ) (x : Hello) (b : Bool) → Word now → Word (t.next + 1) → HelloFits x → Makes 143 (answer now x b t)
  unfolding answer
  makes_answer now x b w v f = makes (widths_answer t k now x b w v f) ((k.next, f.msg2), tt) (omega arith)

  makes_promote : (now : ℕ) (p : Bytes) (a : Answered) (g : Leg) (r : LinkRec) → Word now → LegFits g → g.peer ≡ Some p → answered g.kind ≡ Some a
      → LinkFits r → Makes 108 (promote now p a g r t)
  unfolding promote
  makes_promote now p a g r w f e z y =
      let q : Exactly 16 p = if_any (Exactly 16) g.peer p e f.peer in
      makes (widths_promote t k now p a g r w f e z y) (record { peer = q; link = f.link; pair = y.setup; lease = f.lease }, (q, tt)) (omega arith)

  makes_dialed : (now : ℕ) (p : Bytes) (g : Leg) (epoch : ℕ) (from : Pair) (how : Transition) → Word now → LegFits g → Exactly 16 p → Word epoch → PairFits from
      → Makes 108 (dialed now p g epoch from how t)
  unfolding dialed
  makes_dialed now p g epoch from how w f q v x =
      makes (widths_dialed t k now p g epoch from how w f q v x) (record { peer = q; link = f.link; pair = x; lease = f.lease }, (q, tt)) (omega arith)

  -- the move holds the leg's link before it retires the holder's
  makes_moveto : (p : Bytes) (g : Leg) (h : Held) (from : Pair) → LegFits g → HeldFits h → Exactly 16 p → PairFits from → Makes 386 (moveto p g h from t)
  unfolding moveto
  makes_moveto p g h from f y q x =
      let z = retiring_fits h.link (hold g.link (APeer p) t.links) (hold_fits g.link p t.links q k.links) in
      makes (widths_moveto t k p g h from f q x) (record { peer = q; link = f.link; pair = x; lease = f.lease }, (q, ((y.link, z), tt))) (omega (arith, z.size))

  stored_at : (p : Pair) (b : Bytes) (o : Stored) → stored p b t ≡ Some o → StoredFits o
  unfolding stored
  stored_at p b o e = if_any StoredFits (stored p b t) o e (stored_fits p b t.legs t.links k.legs k.links)

  -- an output, with the lease freed
  freed : {o : Output} (n : ℕ) → OutputFits o → cost o ≤ 1_000 → n < 2 ^ 32 → Makes 10_240 (writes (o ∷ Free n ∷ []) t)
  freed n f c v = makes k (f, (v, tt)) (omega arith)

-- ---- every call

module _ (now : ℕ) (w : Word now) (t : Table) (k : Widths t) where
  makes_remove : (p : Bytes) (why : Why) → Exactly 16 p → Q (remove now p why t)
  unfolding remove Q
  makes_remove p why q = option_by Q (held_at p t) (λ e. makes_still k) (λ h e. within 319 (omega arith) (makes_removed t k now p why h w q e))

  makes_arrived : (p : Pair) (b : Bytes) → Q (arrived p b t)
  unfolding arrived Q
  makes_arrived p b = option_by Q (stored p b t)
      (λ e. record { widths = k; wrote = if_by (Wrote 10_240) (full t) (λ z. record { fits = (tt, tt); cost = omega arith }) (λ z. wrote_nothing) })
      (λ o e. let x = stored_at t k p b o e in makes k ((x.link, x.msg2), tt) (omega arith))

  makes_admit : (s : Source) (x : Hello) → Word (t.next + 1) → HelloFits x → R (admit now s x t)
  unfolding admit admitted stamp removed R
  makes_admit s x v f =
      let j : Source = asked s (held_at x.peer t) in
      option_by R (denied now j x t)
      (λ e. option_by R (held_at x.peer t) (λ n. makes_entering x.peer t _ k (within 143 (omega arith) (makes_answer t k now x false w v f))) (λ h n. over j h n))
      (λ why e. freed t k x.lease f.peer (omega arith) f.lease)
    where
      over : (j : Source) (h : Held) → held_at x.peer t ≡ Some h → Makes 10_240 (removed now x.peer (displaces j) h (stamp now h t) ▸ answer now x true)
      over j h n =
          let a = makes_removed (stamp now h t) (widths_stamp t k now x.peer h w n) now x.peer (displaces j) h w f.peer n in
          both (answer now x true) a (makes_answer (removed now x.peer (displaces j) h (stamp now h t)).table a.widths now x true w v f) (omega arith)

  makes_msg1 : (x : Hello) (b : Bool) → Word (t.next + 1) → HelloFits x → R (msg1 now x b t)
  unfolding msg1 R
  makes_msg1 x b v f = option_by R (stored x.from x.bytes t)
      (λ e. option_by R (held_at x.peer t) (λ n. makes_admit Source.NotHeld x v f)
      (λ h n. if_by R (not (eqb h.epoch x.epoch)) (λ q. makes_admit Source.Restart x v f) (λ q. freed t k x.lease f.peer (omega arith) f.lease)))
      (λ o e. let y = stored_at t k x.from x.bytes o e in freed t k x.lease (y.link, y.msg2) (omega arith) f.lease)

  makes_sent : (n : ℕ) → Q (sent now n t)
  unfolding sent Q
  makes_sent n = option_by Q (leg_at n t) (λ e. makes_still k) λ g e.
      option_by Q (answered g.kind) (λ z. makes_still (widths_legs t k (on_link n) (resent t.params now) (resent_fits t.params now w))) λ a z.
      option_by Q g.peer (λ v. makes_still k) λ p v.
      if_by Q (is (held_at p t)) (λ u. makes_still (widths_legs t k (on_link n) mark_sent sent_fits))
      (λ u. option_by Q (link_at n t) (λ y. makes_still k) λ r y. within 108 (omega arith) (makes_promote t k now p a g r w (leg_fits t k n g e) v z (link_fits t k n r y)))

  makes_msg2 : (n epoch : ℕ) (from : Pair) → Word epoch → PairFits from → Q (msg2 now n epoch from t)
  unfolding msg2 Q
  makes_msg2 n epoch from v x = option_by Q (leg_at n t) (λ e. makes_still k) λ g e.
      option_by Q (dialing g) (λ z. makes_still k) λ p z.
      let f = leg_fits t k n g e in
      let q : Exactly 16 p = if_any (Exactly 16) (dialing g) p z (option_by (IfAny (Exactly 16)) (answered g.kind) (λ y. f.peer) (λ a y. tt)) in
      option_by Q (held_at p t) (λ c. within 108 (omega arith) (makes_dialed t k now p g epoch from Promote w f q v x)) λ h c.
      if_by Q (not (eqb h.epoch epoch))
      (λ u.
      let a = makes_removed t k now p Why.OwnRestart h w q c in
      both (dialed now p g epoch from Replace) a (makes_dialed _ a.widths now p g epoch from Replace w f q v x) (omega arith))
      (λ u. if_by Q (own h t || before t.me p) (λ y. within 386 (omega arith) (makes_moveto t k p g h from f (held_fits t k p h c) q x))
      (λ y.
      let a = makes_ends t k g f in
      both {n = 21} (writes (Reset p Keep ∷ [])) a (makes a.widths (q, tt) (omega arith)) (omega arith)))

  makes_restarted : (p : Bytes) (epoch : ℕ) → Exactly 16 p → Word epoch → Q (restarted p epoch t)
  unfolding restarted Q
  makes_restarted p epoch q v = option_by Q (held_at p t) (λ e. makes_still k) (λ h e. makes (widths_renewed t k p epoch v) (q, tt) (omega arith))

  makes_heard : (p : Bytes) (from : Pair) → Exactly 16 p → PairFits from → Q (heard now p from t)
  unfolding heard Q
  makes_heard p from q f = option_by Q (held_at p t) (λ e. makes_still k)
      (λ h e. record { widths = widths_heard t k now p from w q f; wrote = if_by (Wrote 10_240) (same_pair from h.current) (λ z. wrote_nothing) (λ z. record { fits = (q, tt); cost = omega arith }) })

  makes_path : (n : ℕ) (p : Pair) (v : Proven) → PairFits p → R (add_path n p v t)
  unfolding add_path R
  makes_path n p v f = if_by R (crowded n p t) (λ e. makes_still k) (λ e. makes_still (widths_path t k n p v f e))

  makes_release : (n : ℕ) (p : Pair) (kept : Bool) → Word n → PairFits p → Q (release n p kept t)
  unfolding release releasing Q
  makes_release n p kept v f =
      let x : ListFits 1 (releasing n p kept t.links) = if_by (ListFits 1) (not (any (numbered n) t.links) || kept || in_use p (released n p t.links))
      (λ e. record { size = omega arith; each = tt }) (λ e. record { size = omega arith; each = (f, tt) }) in
      makes (widths_release t k n p) ((v, x), tt) (omega (arith, x.size))

  makes_dial : (p : Bytes) (to : Pair) (m : Bytes) (l : ℕ) → Word (t.next + 1) → DialFits p to m l → Q (dial now p to m l t)
  unfolding dial Q
  makes_dial p to m l v f = makes (widths_dial t k now p to m l w v f.peer f.pair f.msg1 f.lease) (k.next, tt) (omega arith)

  makes_step : (c : Call) → CallFits c → Limits t → R (step now c t)
  unfolding step unsent Q R
  makes_step (Call.Dial p to m n) f l = makes_numbering t _ k (λ v. makes_entering p t _ k (makes_dial p to m n v f))
  makes_step (Call.Abandon n) f l = makes_abandon t k l n
  makes_step (Call.Arrived p b) f l = makes_arrived p b
  makes_step (Call.Msg1 x b) f l = makes_numbering t _ k (λ v. makes_msg1 x b v f)
  makes_step (Call.Replacement x) f l = makes_numbering t _ k (λ v. makes_admit Source.Replacement x v f)
  makes_step (Call.Sent n) f l = makes_sent n
  makes_step (Call.Unsent n) f l = makes_still (widths_legs t k (on_link n) mark_unsent unsent_fits)
  makes_step (Call.Msg2 n e p) f l = makes_msg2 n e p f.1 f.2
  makes_step (Call.Restarted p e) f l = makes_restarted p e f.0 f.1
  makes_step (Call.Heard p from) f l = makes_heard p from f.0 f.1
  makes_step (Call.Remove p why) f l = makes_remove p why f
  makes_step Call.Poll f l = makes_poll t k l now
  makes_step Call.Close f l = makes_close t k l now w
  makes_step (Call.Path n p v) f l = makes_path n p v f.1
  makes_step (Call.Release n p b) f l = makes_release n p b f.0 f.1
  makes_step Call.Wake f l = makes k (wake_fits t.legs k.legs, tt) (omega arith)

pub makes_call : (s : Bytes) (buffer : ℕ) (t : Table) → All IsByte s → Widths t → Limits t → Makes 10_240 (call s buffer t).step
unfolding call R
makes_call s buffer t h k l = if_by R (ltb buffer 10_240) (λ e. makes_still k)
    (λ e. option_by R (read_call s) (λ z. makes_still k) (λ x z. let f = accepted_fits s x h z in makes_step x.now f.now t k x.call f.call l))

module _ (s : Bytes) (buffer : ℕ) (t : Table) (h : All IsByte s) (b : Bounds t) where
  -- each output can be spelt
  pub outputs_fit : All OutputFits (call s buffer t).step.outs
  outputs_fit = (makes_call s buffer t h b.widths b.limits).wrote.fits

  pub written : length (outputs (call s buffer t).step.outs) ≤ 10_240
  written = let x = makes_call s buffer t h b.widths b.limits in omega (arith, outputs_size (call s buffer t).step.outs x.wrote.fits, x.wrote.cost)
