-- The starred lines of document 01, its worked tape, the refusals and the errors a porter makes, computed from the definitions with default settings.
use Rattle.std.specs.Prelude.{None, Option, Some}
use mathlib.Core.Path.{◌≡◌, refl}
use mathlib.Core.Bool.{true, false}
use mathlib.Core.List.{List, [], ◌∷◌, ◌++◌}
use Prim.Native.Nat.{ℕ, zero, suc, ◌+◌, ◌-◌}
use lib.ListN.{replicate}
use Rattle.rules.specs.Base.{option, Bytes}
use Rattle.rules.specs.Data.{Pair, Proven, Live, Acked, Probing, Silence, Hello, Table, Call, Source, Why, Full, Gate, Refusal, Unheard, Dampened, Replayed, Silent, Output, Step, Opened, Resend, Retire, Free, Reject}
use Rattle.rules.specs.Field.{more, digits, bind, bytes, number, up_to, code, pair, message, pair_bytes, message_bytes, frame}
use Rattle.rules.specs.Record.{Timed, hello, dial_fields, link_fields, arrived_fields, msg1_fields, replacement_fields, msg2_fields, restarted_fields, heard_fields, remove_fields, path_fields, release_fields, kinds, timed, settings, form, begin_fields, begin, framed, read_call, read_new, settings_bytes, form_bytes, spell_new}
use Rattle.rules.specs.Std.{from_nanos, duration_max, last_reading, saturating_mul, shorter, shortest, checked_add, saturating_since, checked_shl, insert}
use Rattle.rules.specs.Time.{Params, seconds, default, out_of_range, backoff, deadline, younger}
use Rattle.rules.specs.Links.{uses, in_use, indexed, opened, hold, set_path, path, once, addresses, retiring, released, releasing}
use Rattle.rules.specs.Legs.{dial_leg, answer_leg, stored_msg2, answering, resent, overdue, resends, wake, next_wake}
use Rattle.rules.specs.Gates.{memory, store, silencing, replayed, young, dampened, judge, judged, clear, prune, promoted, expired, counting, counted_with, silenced, ended}
use Rattle.rules.specs.Settle.{still, ◌▸◌, distinct, places, numbering, entering, dial, ends, abandon, stored_on, stored_in, stored, full, arrived, parted, removed, remove, denied, answer, stamp, admitted, admit, attributed, msg1, promote, sent, unsent, dialed, moveto, own, msg2, restarted, heard, abandons, poll, retireds, retirings, close_legs, removes, close, crowded, add_path, release, step}
use Rattle.rules.specs.Output.{list_bytes, install_bytes, output_bytes, output_record, outputs, done_record}
use Rattle.rules.specs.Entry.{Made, Refused, new_table, new, call}
use Rattle.rules.specs.Tape.{extent, records, calls, session, run}

-- ---- what calls do

abbrev pub them : Bytes
them = replicate 16 0x22

abbrev pub A : Pair
A = record { transport = 7; addr = 0x41 ∷ [] }

abbrev pub B : Pair
B = record { transport = 8; addr = [] }

abbrev pub on : ℕ → Call → Timed
on now c = record { now = now; call = c }

-- a node that holds nothing, with default settings and this first link number
pub from : ℕ → Table
unfolding new_table default
from first = new_table (replicate 16 0) first default

-- the calls one after another
pub after : List Timed → Table → Step
unfolding saturating_mul shorter shortest checked_add saturating_since checked_shl insert default out_of_range backoff deadline younger uses in_use indexed opened hold set_path path once addresses retiring released releasing dial_leg answer_leg stored_msg2 answering resent overdue resends wake next_wake memory store silencing replayed young dampened judge judged clear prune promoted expired counting counted_with silenced ended ◌▸◌ distinct places numbering entering dial ends abandon stored_on stored_in stored full arrived parted removed remove denied answer stamp admitted admit attributed msg1 promote sent unsent dialed moveto own msg2 restarted heard abandons poll retireds retirings close_legs removes close crowded add_path release step
after [] t = still t
after (x ∷ s) t = (step x.now x.call t).step ▸ after s

-- all that they write
pub outs : List Timed → List Output
unfolding after from
outs s = (after s (from 1)).outs

-- what the last call writes, after those of the list
pub says : List Timed → Timed → List Output
unfolding after from
says s x = (step x.now x.call (after s (from 1)).table).step.outs

-- the numbers of the calls of the second list, after those of the first; links from this number on
pub numbers : ℕ → List Timed → List Timed → List ℕ
unfolding after from
numbers first s u = go u (after s (from first)).table
  where
    go : List Timed → Table → List ℕ
    go [] t = []
    go (x ∷ v) t = (step x.now x.call t).number ∷ go v (step x.now x.call t).step.table

-- the program on a tape
pub writes_of : Bytes → Bytes
unfolding after more digits bind bytes number up_to code pair message pair_bytes message_bytes frame hello dial_fields link_fields arrived_fields msg1_fields replacement_fields msg2_fields restarted_fields heard_fields remove_fields path_fields release_fields kinds timed settings form begin_fields begin framed read_call read_new settings_bytes form_bytes spell_new list_bytes install_bytes output_bytes output_record outputs done_record new_table new call extent records calls session run
writes_of s = run s

-- ---- the cases

abbrev pub dials : ℕ → Bytes → ℕ → Timed
dials now p l = on now (Call.Dial p A (0x55 ∷ []) l)

-- a msg1 of a peer from a pair, with this epoch and digest, whose byte is the lease too
abbrev pub hello1 : Bytes → Pair → ℕ → ℕ → Hello
hello1 p from e d = record { peer = p; from = from; bytes = 1 ∷ []; ephemeral = replicate 32 d; epoch = e; msg2 = 2 ∷ []; lease = d }

abbrev pub msg1s : ℕ → ℕ → ℕ → Timed
msg1s now e d = on now (Call.Msg1 (hello1 them A e d) true)

-- the peer is held on link n, unheard
abbrev pub holds : ℕ → ℕ → ℕ → ℕ → List Timed
holds now e d n = msg1s now e d ∷ on now (Call.Sent n) ∷ []

-- and that session ends
abbrev pub ending : ℕ → ℕ → List Timed
ending now n = holds now 5 n n ++ (on now (Call.Remove them Why.Ended) ∷ [])

-- three of them 10 ns below the last reading
abbrev pub endings_last : List Timed
endings_last = ending (last_reading - 10) 1 ++ ending (last_reading - 10) 2 ++ ending (last_reading - 10) 3

-- what the first of them leaves
abbrev pub ended_last : Silence
ended_last = record { epoch = Some 5; count = 1; last = last_reading - 10; until = None; counted = replicate 32 1 ∷ [] }

abbrev pub rejected : Source → Refusal → ℕ → List Output
rejected s r l = Reject (Some (them, s)) (Gate r) ∷ Free l ∷ []

abbrev pub passed : ℕ → List Output
passed n = Output.Remove them Why.Restart ∷ Retire n [] ∷ Output.Answer (n + 1) false (2 ∷ []) ∷ []

-- a heard holder is displaced at 15 s, which sets the stamp; the new one is unheard
abbrev pub stamped15 : List Timed
stamped15 = holds 0 5 1 1 ++ (on 0 (Call.Heard them A) ∷ []) ++ holds (seconds 15) 6 2 2

-- the peer is held by a dial, and its msg1 from B was answered on link 2
abbrev pub marked : List Timed
marked = dials 0 them 9 ∷ on 0 (Call.Msg1 (hello1 them B 5 1) true) ∷ on 0 (Call.Msg2 1 5 A) ∷ on 0 (Call.Sent 2) ∷ []

-- a msg1 of another peer from a pair with these bytes, whose answer is 4, and its lease
abbrev pub hello4 : Pair → Bytes → ℕ → Hello
hello4 from b l = record { peer = replicate 16 0x23; from = from; bytes = b; ephemeral = replicate 32 l; epoch = 5; msg2 = 4 ∷ []; lease = l }

-- then the other peer's from there was answered on link 3, not yet sent
abbrev pub marked3 : List Timed
marked3 = marked ++ (on 0 (Call.Msg1 (hello4 B (3 ∷ []) 2) true) ∷ [])

-- or it came from A, and link 3 has a path at B in this state
abbrev pub marked_path : Proven → List Timed
marked_path v = marked ++ (on 0 (Call.Msg1 (hello4 A (3 ∷ []) 2) true) ∷ on 0 (Call.Path 3 B v) ∷ [])

-- or the other peer is held by a dial, and its replacement from B with these bytes was answered on link 4, and sent
abbrev pub marked4 : Bytes → List Timed
marked4 b = marked ++ (dials 0 (replicate 16 0x23) 8 ∷ on 0 (Call.Replacement (hello4 B b 2)) ∷ on 0 (Call.Msg2 3 5 A) ∷ on 0 (Call.Sent 4) ∷ [])

abbrev pub heard_then_removed : ℕ → List Timed
heard_then_removed now = on now (Call.Heard them A) ∷ on now (Call.Remove them Why.Admin) ∷ []

abbrev pub polls : ℕ → Timed
polls s = on (seconds s) Call.Poll

abbrev pub wakes : ℕ → Output
wakes s = Output.Wake (Some (seconds s))

-- sent, then wake
abbrev pub sends : ℕ → List Timed
sends s = on (seconds s) (Call.Sent 1) ∷ on (seconds s) Call.Wake ∷ []

-- n endings, each when the silence of the one before is over: the span for which each silences
pub silences : ℕ → ℕ → ℕ → Table → List (Option ℕ)
unfolding after
silences zero link now t = []
silences (suc n) link now t =
    let u : Table = (after (ending now link) t).table in
    let until : Option ℕ = option (memory them u.gates).silence None λ r. r.until in
    option until None (λ v. Some (v - now)) ∷ silences n (suc link) (option until now λ v. v) u

abbrev pub for : ℕ → Option ℕ
for s = Some (seconds s)

-- ---- the worked tape

abbrev pub new_record : Bytes
new_record = (0x00 ∷ 0x23 ∷ 0x01 ∷ 0x11 ∷ []) ++ replicate 8 0x00 ++ replicate 16 0x00 ++ replicate 7 0x00 ++ (0x01 ∷ 0x00 ∷ [])

abbrev pub dial_record : Bytes
dial_record =
    (0x00 ∷ 0x27 ∷ 0x01 ∷ 0x01 ∷ []) ++ replicate 8 0x00 ++ replicate 16 0x22
    ++ (0x00 ∷ 0x00 ∷ 0x00 ∷ 0x07 ∷ 0x01 ∷ 0x41 ∷ 0x00 ∷ 0x01 ∷ 0x55 ∷ 0x00 ∷ 0x00 ∷ 0x00 ∷ 0x09 ∷ [])

abbrev pub abandon_record : Bytes
abandon_record = (0x00 ∷ 0x12 ∷ 0x01 ∷ 0x02 ∷ []) ++ replicate 8 0x00 ++ replicate 7 0x00 ++ (0x01 ∷ [])

abbrev pub done : ℕ → Bytes
done n = 0x00 ∷ 0x03 ∷ 0x01 ∷ 0x00 ∷ n ∷ []

abbrev pub opened_record : Bytes
opened_record = (0x00 ∷ 0x0a ∷ 0x01 ∷ 0x01 ∷ []) ++ replicate 7 0x00 ++ (0x01 ∷ [])

abbrev pub free_record : Bytes
free_record = 0x00 ∷ 0x06 ∷ 0x01 ∷ 0x0b ∷ 0x00 ∷ 0x00 ∷ 0x00 ∷ 0x09 ∷ []

abbrev pub retire_record : Bytes
retire_record = (0x00 ∷ 0x11 ∷ 0x01 ∷ 0x08 ∷ []) ++ replicate 7 0x00 ++ (0x01 ∷ 0x01 ∷ 0x00 ∷ 0x00 ∷ 0x00 ∷ 0x07 ∷ 0x01 ∷ 0x41 ∷ [])

-- ---- for the refusals

-- the default with these three limits
pub limits : ℕ → ℕ → ℕ → Params
unfolding default
limits replays counted pending = record {
  unheard = default.unheard;
  interval = default.interval;
  replays = replays;
  silent = default.silent;
  silentbase = default.silentbase;
  silentcap = default.silentcap;
  horizon = default.horizon;
  counted = counted;
  handshake = default.handshake;
  resend = default.resend;
  resends = default.resends;
  pending = pending;
}

abbrev pub crowd_peer : ℕ → Bytes
crowd_peer n = replicate 15 0x20 ++ (n ∷ [])

abbrev pub crowd_dial : ℕ → Timed
crowd_dial n = dials 0 (crowd_peer n) n

abbrev pub crowd_hello : ℕ → Hello
crowd_hello n = hello1 (crowd_peer n) (record { transport = n; addr = [] }) 5 n

abbrev pub crowd_msg1 : ℕ → Timed
crowd_msg1 n = on 0 (Call.Msg1 (crowd_hello n) true)

-- dials of the peers n down to 1
abbrev pub crowd : ℕ → List Timed
crowd zero = []
crowd (suc n) = crowd_dial (suc n) ∷ crowd n

-- a session for each of the peers n down to 1 that ends unheard, on links k onwards: it leaves a silence and no link
abbrev pub silents : ℕ → ℕ → List Timed
silents zero k = []
silents (suc n) k = crowd_msg1 (suc n) ∷ on 0 (Call.Sent k) ∷ on 0 (Call.Remove (crowd_peer (suc n)) Why.Ended) ∷ silents n (suc k)

abbrev pub path_to : ℕ → Proven → Timed
path_to n v = on 0 (Call.Path 1 (record { transport = n; addr = [] }) v)

-- ---- for Silent before Full

-- what the last call writes, after those of the list, where one answer may wait
pub says_pending1 : List Timed → Timed → List Output
unfolding after new_table limits
says_pending1 s x = (step x.now x.call (after s (new_table (replicate 16 0) 1 (limits 8 8 1))).table).step.outs

-- the peer is silenced for 30 s at epoch 5, and an answer to another waits
abbrev pub silent_full : List Timed
silent_full = ending 0 1 ++ ending 0 2 ++ ending 0 3 ++ (crowd_msg1 1 ∷ [])

-- then the peer is held by a dial, at this epoch
abbrev pub dialed_full : ℕ → List Timed
dialed_full e = silent_full ++ (dials 0 them 9 ∷ on 0 (Call.Msg2 5 e A) ∷ [])

abbrev pub rejected_full : Source → List Output
rejected_full s = Reject (Some (them, s)) Full ∷ Free 4 ∷ []

pub record Rows : Type 0 where
  -- Backoff of 1 ns, no cap in reach: exponent 31 gives 2,147,483,648; 32 gives 4,294,967,295.
  pub backoff_31 : backoff 31 (from_nanos 1) duration_max ≡ from_nanos 2_147_483_648
  pub backoff_32 : backoff 32 (from_nanos 1) duration_max ≡ from_nanos 4_294_967_295
  -- Ten ns added 5 below the last reading ends on the last; 4 below, it does too. The cut to the ceiling comes first.
  pub deadline_5 : deadline (last_reading - 5) (from_nanos 10) ≡ last_reading
  pub deadline_4 : deadline (last_reading - 4) (from_nanos 10) ≡ last_reading
  pub deadline_ceiling : deadline 1 duration_max ≡ 3_153_600_000_000_000_001
  -- Dial at 0, each resend sent on time: wakes 1, 3, 7, 15, 30 s.
  pub resends_on_time : outs (dials 0 them 9 ∷ on 0 Call.Wake ∷ sends 1 ++ sends 3 ++ sends 7 ++ sends 15)
      ≡ Opened 1 ∷ wakes 1 ∷ wakes 3 ∷ wakes 7 ∷ wakes 15 ∷ wakes 30 ∷ []
  -- Dial 10 ns below the last reading: it wakes, and is reaped, at the last and not before.
  pub dial_last : outs (dials (last_reading - 10) them 9 ∷ on (last_reading - 10) Call.Wake ∷ on (last_reading - 1) Call.Poll ∷ on last_reading Call.Poll ∷ [])
      ≡ Opened 1 ∷ Output.Wake (Some last_reading) ∷ Free 9 ∷ Retire 1 (A ∷ []) ∷ []
  -- Restart, new digest, no stamp, unheard holder: refused at 999,999,999 ns; passes at 1 s; stamp 2 s old, Dampened.
  pub restart_young : says (holds 0 5 1 1) (msg1s 999_999_999 6 2) ≡ rejected Source.Restart Unheard 2
  pub restart_old : says (holds 0 5 1 1) (msg1s (seconds 1) 6 2) ≡ passed 1
  pub restart_stamped : says stamped15 (msg1s (seconds 17) 7 3) ≡ rejected Source.Restart Dampened 3
  -- A seen digest within 1 s is Replayed, not Unheard.
  pub restart_seen : says (holds 0 5 1 1) (msg1s 999_999_999 6 1) ≡ rejected Source.Restart Replayed 1
  -- Silences 30, 60, 120, 240, 480, 600 s from the third ending.
  pub silence_spans : silences 9 1 0 (from 1) ≡ None ∷ None ∷ for 30 ∷ for 60 ∷ for 120 ∷ for 240 ∷ for 480 ∷ for 600 ∷ for 600 ∷ []
  -- until = now lets through.
  pub silence_on : says (ending 0 1 ++ ending 0 2 ++ ending 0 3) (msg1s 29_999_999_999 5 4) ≡ rejected Source.NotHeld Silent 4
  pub silence_over : says (ending 0 1 ++ ending 0 2 ++ ending 0 3) (msg1s (seconds 30) 5 4) ≡ Output.Answer 4 false (2 ∷ []) ∷ []
  -- The same where until is the last reading.
  pub silence_last_on : says endings_last (msg1s (last_reading - 1) 5 4) ≡ rejected Source.NotHeld Silent 4
  pub silence_last_over : says endings_last (msg1s last_reading 5 4) ≡ Output.Answer 4 false (2 ∷ []) ∷ []
  -- A horizon whose sum does not fit expires at the last reading, and not before.
  pub horizon_last_on : expired default (last_reading - 1) ended_last ≡ false
  pub horizon_last_over : expired default last_reading ended_last ≡ true
  -- Silent before Full: a msg1 from a peer not held, and a replacement.
  pub silent_full_lem : says_pending1 silent_full (msg1s 29_999_999_999 5 4) ≡ rejected Source.NotHeld Silent 4
  pub silent_full_replacement : says_pending1 (dialed_full 5) (on 0 (Call.Replacement (hello1 them B 5 4))) ≡ rejected Source.Replacement Silent 4
  -- Full where silence does not hold (until = now; another epoch), and for a Restart and arrived.
  pub full_over : says_pending1 silent_full (msg1s (seconds 30) 5 4) ≡ rejected_full Source.NotHeld
  pub full_epoch : says_pending1 silent_full (msg1s 0 6 4) ≡ rejected_full Source.NotHeld
  pub full_restart : says_pending1 (dialed_full 6) (msg1s 0 5 4) ≡ rejected_full Source.Restart
  pub full_arrived : says_pending1 silent_full (on 0 (Call.Arrived A (1 ∷ []))) ≡ Reject None Full ∷ []
  -- Retiring a leg without paths whose setup another leg shares closes nothing.
  pub shared_setup : says (dials 0 them 9 ∷ dials 0 (replicate 16 0x23) 10 ∷ []) (on 0 (Call.Abandon 1)) ≡ Free 9 ∷ Retire 1 [] ∷ []
  -- The worked tape: new; dial; abandon. Done; Opened 1, Done; Free 9, Retire 1 closing the pair, Done.
  pub tape : writes_of (new_record ++ dial_record ++ abandon_record) ≡ done 0 ++ opened_record ++ done 0 ++ free_record ++ retire_record ++ done 0
  -- A second new is refused 3. A cut last record gives 3; empty input writes nothing. A refused first record ends the program.
  pub tape_second_new : writes_of (new_record ++ new_record) ≡ done 0 ++ done 3
  pub tape_cut : writes_of (new_record ++ dial_record ++ (0x00 ∷ 0x12 ∷ 0x01 ∷ [])) ≡ done 0 ++ opened_record ++ done 0 ++ done 3
  pub tape_empty : writes_of [] ≡ []
  pub tape_refused : writes_of (dial_record ++ dial_record) ≡ done 3
  -- 1: counted 0 or above 8, or replays above 8
  pub number_1 : new (spell_new 0 (replicate 16 0) 1 (Some (limits 8 0 1000))) ≡ Refused 1
  pub number_1_counted : new (spell_new 0 (replicate 16 0) 1 (Some (limits 8 9 1000))) ≡ Refused 1
  pub number_1_replays : new (spell_new 0 (replicate 16 0) 1 (Some (limits 9 8 1000))) ≡ Refused 1
  pub number_none : new (spell_new 0 (replicate 16 0) 1 (Some (limits 8 8 1000))) ≡ Made (from 1)
  -- 2 comes before 3: an output buffer under 10,240 bytes, for any record
  pub number_2 : (call [] 10_239 (from 1)).number ≡ 2
  pub number_3 : (call [] 10_240 (from 1)).number ≡ 3
  pub number_3_new : new [] ≡ Refused 3
  -- 4: dial, msg1, replacement when the next link number is 2^64 - 1
  pub numbers_4 : numbers (last_reading - 1) [] (crowd_dial 1 ∷ crowd_dial 2 ∷ crowd_msg1 1 ∷ on 0 (Call.Replacement (crowd_hello 1)) ∷ on 0 (Call.Abandon (last_reading - 1)) ∷ [])
      ≡ 0 ∷ 4 ∷ 4 ∷ 4 ∷ 0 ∷ []
  -- 5: 32 links are live
  pub numbers_5 : numbers 1 (crowd 31) (crowd_dial 32 ∷ crowd_dial 33 ∷ on 0 (Call.Replacement (crowd_hello 33)) ∷ on 0 (Call.Abandon 3) ∷ crowd_dial 33 ∷ [])
      ≡ 0 ∷ 5 ∷ 5 ∷ 0 ∷ 0 ∷ []
  -- 6: the peer has no place and 32 places are used
  pub numbers_6 : numbers 1 (silents 32 1) (crowd_dial 33 ∷ crowd_msg1 33 ∷ crowd_dial 32 ∷ []) ≡ 6 ∷ 6 ∷ 0 ∷ []
  -- 7: live link, new pair, four paths already
  pub numbers_7 : numbers 1 (crowd_dial 1 ∷ path_to 1 Live ∷ path_to 2 Acked ∷ path_to 3 Probing ∷ path_to 4 Live ∷ []) (path_to 5 Live ∷ path_to 3 Live ∷ []) ≡ 7 ∷ 0 ∷ []
  -- Poll repeats a resend until sent moves it.
  pub poll_repeats : outs (dials 0 them 9 ∷ polls 1 ∷ polls 1 ∷ on (seconds 1) Call.Wake ∷ on (seconds 1) (Call.Sent 1) ∷ polls 1 ∷ [])
      ≡ Opened 1 ∷ Resend 1 (0x55 ∷ []) ∷ Resend 1 (0x55 ∷ []) ∷ wakes 1 ∷ []
  -- An answer leg not yet sent yields its msg2 for any bytes, a sent one only for equal msg1 bytes.
  pub answer_unsent : says (msg1s 0 5 1 ∷ []) (on 0 (Call.Arrived A (3 ∷ []))) ≡ Output.Answer 1 true (2 ∷ []) ∷ []
  pub answer_sent : says marked (on 0 (Call.Arrived B (3 ∷ []))) ≡ []
  pub answer_equal : says marked (on 0 (Call.Arrived B (1 ∷ []))) ≡ Output.Answer 2 true (2 ∷ []) ∷ []
  -- Where several links at one address yield one, the newest answers: not yet sent, before an older one with equal msg1 bytes; by a path; with equal bytes too.
  pub newest_unsent : says marked3 (on 0 (Call.Arrived B (1 ∷ []))) ≡ Output.Answer 3 true (4 ∷ []) ∷ []
  pub newest_msg1 : says marked3 (on 0 (Call.Msg1 (hello1 them B 5 3) true)) ≡ Output.Answer 3 true (4 ∷ []) ∷ Free 3 ∷ []
  pub newest_path : says (marked_path Live) (on 0 (Call.Arrived B (1 ∷ []))) ≡ Output.Answer 3 true (4 ∷ []) ∷ []
  pub newest_equal : says (marked4 (1 ∷ [])) (on 0 (Call.Arrived B (1 ∷ []))) ≡ Output.Answer 4 true (4 ∷ []) ∷ []
  -- An older one answers where the newest yields none (sent, other bytes; no leg any more), or is not there by the index (released; a Probing path).
  pub older_sent : says (marked4 (3 ∷ [])) (on 0 (Call.Arrived B (1 ∷ []))) ≡ Output.Answer 2 true (2 ∷ []) ∷ []
  pub older_installed : says (marked3 ++ (on 0 (Call.Sent 3) ∷ [])) (on 0 (Call.Arrived B (1 ∷ []))) ≡ Output.Answer 2 true (2 ∷ []) ∷ []
  pub older_released : says (marked3 ++ (on 0 (Call.Release 3 B false) ∷ [])) (on 0 (Call.Arrived B (1 ∷ []))) ≡ Output.Answer 2 true (2 ∷ []) ∷ []
  pub older_probing : says (marked_path Probing) (on 0 (Call.Arrived B (1 ∷ []))) ≡ Output.Answer 2 true (2 ∷ []) ∷ []
  -- heard clears replays and silence, never the stamp.
  pub heard_keeps_stamp : says (stamped15 ++ heard_then_removed (seconds 15) ++ holds (seconds 15) 6 3 3) (msg1s (seconds 17) 7 4) ≡ rejected Source.Restart Dampened 4
  pub heard_clears_replays : says (holds 0 5 1 1 ++ heard_then_removed 0 ++ holds 0 5 2 2) (msg1s (seconds 1) 6 1) ≡ passed 2

pub rows : Rows
unfolding outs says says_pending1 silences numbers writes_of limits
rows = record {
  backoff_31 = refl;
  backoff_32 = refl;
  deadline_5 = refl;
  deadline_4 = refl;
  deadline_ceiling = refl;
  resends_on_time = refl;
  dial_last = refl;
  restart_young = refl;
  restart_old = refl;
  restart_stamped = refl;
  restart_seen = refl;
  silence_spans = refl;
  silence_on = refl;
  silence_over = refl;
  silence_last_on = refl;
  silence_last_over = refl;
  horizon_last_on = refl;
  horizon_last_over = refl;
  silent_full_lem = refl;
  silent_full_replacement = refl;
  full_over = refl;
  full_epoch = refl;
  full_restart = refl;
  full_arrived = refl;
  shared_setup = refl;
  tape = refl;
  tape_second_new = refl;
  tape_cut = refl;
  tape_empty = refl;
  tape_refused = refl;
  number_1 = refl;
  number_1_counted = refl;
  number_1_replays = refl;
  number_none = refl;
  number_2 = refl;
  number_3 = refl;
  number_3_new = refl;
  numbers_4 = refl;
  numbers_5 = refl;
  numbers_6 = refl;
  numbers_7 = refl;
  poll_repeats = refl;
  answer_unsent = refl;
  answer_sent = refl;
  answer_equal = refl;
  newest_unsent = refl;
  newest_msg1 = refl;
  newest_path = refl;
  newest_equal = refl;
  older_sent = refl;
  older_installed = refl;
  older_released = refl;
  older_probing = refl;
  heard_keeps_stamp = refl;
  heard_clears_replays = refl;
}
