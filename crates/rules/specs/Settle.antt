-- The sixteen calls (table.rs). Each takes the table to a step: the table after it, and the outputs in the order in which the Rust pushes them.
use Rattle.std.specs.Prelude.{Bool, true, false, not, ◌&&◌, ◌||◌, List, [], ◌∷◌, ◌++◌, map, ℕ, ◌+◌, ◌-◌, ◌^◌, eqb, leb, length, if◌then◌else◌, None, Option, Some}
use Rattle.rules.specs.Base.{option, is, or_else, Bytes, same, empty, find, without, alter, any}
use Rattle.rules.specs.Std.{before, insert}
use Rattle.rules.specs.Data.{Pair, same_pair, Dir, Inbound, Outbound, APeer, Proven, LinkRec, Answered, Leg, Held, Memory, Table, Hello, Call, Source, Why, Denial, Full, Gate, Fresh, FromCarry, Transition, Installed, Output, Step, Result}
use Rattle.rules.specs.Data.{Opened, Rekey, Install, Reset, Retire, Free, Retry, Reject, Silent, Promote, Replace, Move, Keep, Roam}
use Rattle.rules.specs.Links.{numbered, proven_at, path_at, indexed, opened, hold, path, retired, retiring, released, releasing}
use Rattle.rules.specs.Legs.{on_link, answered, dialing, dial_leg, answer_leg, stored_msg2, answering, resent, mark_sent, mark_unsent, overdue, resends, next_wake}
use Rattle.rules.specs.Gates.{memory, store, silenced_for, judged, stamped, clear, promoted, ended}

-- ---- a table with one part changed

abbrev pub with_links : List LinkRec → Table → Table
with_links s t = record { me = t.me; params = t.params; next = t.next; links = s; legs = t.legs; held = t.held; gates = t.gates }

abbrev pub with_legs : List Leg → Table → Table
with_legs s t = record { me = t.me; params = t.params; next = t.next; links = t.links; legs = s; held = t.held; gates = t.gates }

abbrev pub with_held : List Held → Table → Table
with_held s t = record { me = t.me; params = t.params; next = t.next; links = t.links; legs = t.legs; held = s; gates = t.gates }

abbrev pub with_gates : List Memory → Table → Table
with_gates s t = record { me = t.me; params = t.params; next = t.next; links = t.links; legs = t.legs; held = t.held; gates = s }

-- a new link with its leg; its number is above all others, so both stand last
abbrev pub joined : LinkRec → Leg → Table → Table
joined r g t = record {
  me = t.me;
  params = t.params;
  next = t.next + 1;
  links = t.links ++ (r ∷ []);
  legs = t.legs ++ (g ∷ []);
  held = t.held;
  gates = t.gates;
}

-- ---- steps

abbrev pub writes : List Output → Table → Step
writes o t = record { table = t; outs = o }

-- writes nothing and changes nothing
abbrev pub still : Table → Step
still t = writes [] t

infixl 20 ◌▸◌
-- the one, then the other on its table
unfoldable pub ◌▸◌ : Step → (Table → Step) → Step
s ▸ f = record { table = (f s.table).table; outs = s.outs ++ (f s.table).outs }

abbrev pub ok : Step → Result
ok s = record { number = 0; step = s }

-- A refusal returns its number and changes nothing.
abbrev pub refuse : ℕ → Table → Result
refuse n t = record { number = n; step = still t }

-- ---- looking up

abbrev pub link_at : ℕ → Table → Option LinkRec
link_at n t = find (numbered n) t.links

abbrev pub leg_at : ℕ → Table → Option Leg
leg_at n t = find (on_link n) t.legs

abbrev pub named : Bytes → Held → Bool
named p h = same p h.peer

abbrev pub earlier_held : Held → Held → Bool
earlier_held h k = before h.peer k.peer

abbrev pub held_at : Bytes → Table → Option Held
held_at p t = find (named p) t.held

abbrev pub drop_leg : ℕ → Table → Table
drop_leg n t = with_legs (without (on_link n) t.legs) t

-- ---- refusals 4, 5 and 6

abbrev pub peer_of : Leg → List Bytes
peer_of g = option g.peer [] λ p. p ∷ []

abbrev pub leg_peers : List Leg → List Bytes
leg_peers [] = []
leg_peers (g ∷ s) = peer_of g ++ leg_peers s

unfoldable pub distinct : List Bytes → List Bytes
distinct [] = []
distinct (p ∷ s) = if any (same p) s then distinct s else p ∷ distinct s

-- A place is used by a peer that is held, has a leg, or has a stamp, a replay or a silence.
abbrev pub named_peers : Table → List Bytes
named_peers t = map (λ h. h.peer) t.held ++ leg_peers t.legs ++ map (λ m. m.peer) t.gates

unfoldable pub places : Table → List Bytes
places t = distinct (named_peers t)

-- 4: the next link number is 2^64 - 1
unfoldable pub numbering : Table → Result → Result
numbering t d = if eqb t.next (2 ^ 64 - 1) then refuse 4 t else d

-- 5: 32 links are live; 6: the peer has no place and 32 places are used
unfoldable pub entering : Bytes → Table → Result → Result
entering p t d =
    if leb 32 (length t.links) then refuse 5 t
    else (if not (any (same p) (places t)) && leb 32 (length (places t)) then refuse 6 t else d)

-- ---- 1 dial, 2 abandon

unfoldable pub dial : ℕ → Bytes → Pair → Bytes → ℕ → Table → Step
dial now p to msg1 lease t =
    let n : ℕ = t.next in
    writes (Opened n ∷ []) (joined (opened n to Outbound) (dial_leg t.params now n p msg1 lease) t)

-- the leg ends unfinished: its lease is freed and its link retired
unfoldable pub ends : Leg → Table → Step
ends g t =
    let n : ℕ = g.link in
    writes (Free g.lease ∷ Retire n (retiring n t.links) ∷ []) (with_links (retired n t.links) (drop_leg n t))

unfoldable pub abandon : ℕ → Table → Step
abandon n t = option (leg_at n t) (still t) λ g. ends g t

-- ---- 3 arrived

-- a link and its stored msg2
pub record Stored : Type 0 where
  pub link : ℕ
  pub msg2 : Bytes

-- what a link yields that is indexed at the pair
unfoldable pub stored_on : Pair → Bytes → List Leg → LinkRec → Option Stored
stored_on p bytes s r =
    if indexed p r then option (find (on_link r.no) s) None (λ g. option (stored_msg2 bytes g) None λ m. Some (record { link = r.no; msg2 = m }))
    else None

-- The newest link, that of the highest number and so the last of the list, that yields a stored msg2 ends the search.
unfoldable pub stored_in : Pair → Bytes → List Leg → List LinkRec → Option Stored
stored_in p bytes s [] = None
stored_in p bytes s (r ∷ rs) = or_else (stored_in p bytes s rs) (stored_on p bytes s r)

unfoldable pub stored : Pair → Bytes → Table → Option Stored
stored p bytes t = stored_in p bytes t.legs t.links

-- Full when answer legs are at least pending
unfoldable pub full : Table → Bool
full t = leb t.params.pending (answering t.legs)

-- the stored Answer, else a Reject with flag 0 if Full holds, else nothing
unfoldable pub arrived : Pair → Bytes → Table → Step
arrived p bytes t = option (stored p bytes t) (writes (if full t then Reject None Full ∷ [] else []) t) λ o.
    writes (Output.Answer o.link true o.msg2 ∷ []) t

-- ---- 11 remove

-- only these list what is closed
abbrev pub closes : Why → Bool
closes Why.Restart = false
closes Why.Replacement = false
closes Why.OwnRestart = false
closes Why.Ended = false
closes Why.Orphaned = true
closes Why.Disconnect = false
closes Why.Dead = false
closes Why.Admin = true
closes Why.Closed = true

-- these add Retry
abbrev pub retries : Why → Bool
retries Why.Restart = false
retries Why.Replacement = false
retries Why.OwnRestart = false
retries Why.Ended = false
retries Why.Orphaned = false
retries Why.Disconnect = true
retries Why.Dead = true
retries Why.Admin = false
retries Why.Closed = false

-- the gates once the holder is gone: an unheard one counts as a silence
unfoldable pub parted : ℕ → Held → Table → List Memory
parted now h t =
    if h.heard then t.gates
    else store (ended t.params now (Some h.epoch) h.setup (memory h.peer t.gates)) t.gates

-- the holder h of the peer goes, and its link
unfoldable pub removed : ℕ → Bytes → Why → Held → Table → Step
removed now p why h t =
    let listed : List Pair = if closes why then retiring h.link t.links else [] in
    let retry : List Output = if retries why then Retry p ∷ [] else [] in
    writes (Output.Remove p why ∷ Retire h.link listed ∷ retry)
    (with_gates (parted now h t) (with_held (without (named p) t.held) (with_links (retired h.link t.links) t)))

unfoldable pub remove : ℕ → Bytes → Why → Table → Step
remove now p why t = option (held_at p t) (still t) λ h. removed now p why h t

-- ---- 4 msg1, 5 replacement

-- Silent, then Full, then the other judgements
unfoldable pub denied : ℕ → Source → Hello → Table → Option Denial
denied now s x t =
    let m : Memory = memory x.peer t.gates in
    if silenced_for now s (Some x.epoch) m then Some (Gate Silent)
    else (if full t then Some Full
    else option (judged t.params now s (held_at x.peer t) x.ephemeral m) None λ r. Some (Gate r))

-- a peer not held is judged, and rejected, as NotHeld
abbrev pub asked : Source → Option Held → Source
asked s None = Source.NotHeld
asked s (Some h) = s

-- why the holder is removed
abbrev pub displaces : Source → Why
displaces Source.NotHeld = Why.Replacement
displaces Source.Restart = Why.Restart
displaces Source.Replacement = Why.Replacement
displaces Source.OwnMsg2 = Why.Replacement
displaces Source.RekeyMsg2 = Why.Replacement

unfoldable pub answer : ℕ → Hello → Bool → Table → Step
answer now x replaces t =
    let n : ℕ = t.next in
    writes (Output.Answer n false x.msg2 ∷ []) (joined (opened n x.from Inbound) (answer_leg t.params now n x replaces) t)

-- Passing over a heard holder sets the stamp.
unfoldable pub stamp : ℕ → Held → Table → Table
stamp now h t = with_gates (if h.heard then store (stamped now (memory h.peer t.gates)) t.gates else t.gates) t

-- past admission: a peer not held needs room, a held one is displaced
unfoldable pub admitted : ℕ → Source → Hello → Table → Result
admitted now s x t = option (held_at x.peer t) (entering x.peer t (ok (answer now x false t))) λ h.
    ok (removed now x.peer (displaces s) h (stamp now h t) ▸ answer now x true)

-- a Reject writes Free for the lease
unfoldable pub admit : ℕ → Source → Hello → Table → Result
admit now s x t =
    let k : Source = asked s (held_at x.peer t) in
    option (denied now k x t) (admitted now k x t) λ why.
    ok (writes (Reject (Some (x.peer, k)) why ∷ Free x.lease ∷ []) t)

-- the pair is the held link's setup, the current pair, or a Live or Acked path
unfoldable pub attributed : Held → Pair → Table → Bool
attributed h p t = option (link_at h.link t) false λ r. same_pair p r.setup || same_pair p h.current || any (proven_at p) r.paths

-- a stored Answer and Free; same epoch gives Rekey and Free; another is Restart; not held is NotHeld
unfoldable pub msg1 : ℕ → Hello → Bool → Table → Result
msg1 now x reachable t =
    option (stored x.from x.bytes t)
    (option (held_at x.peer t) (admit now Source.NotHeld x t) λ h.
    if not (eqb h.epoch x.epoch) then admit now Source.Restart x t
    else ok (writes (Rekey x.peer (attributed h x.from t) reachable ∷ Free x.lease ∷ []) t))
    λ o. ok (writes (Output.Answer o.link true o.msg2 ∷ Free x.lease ∷ []) t)

-- ---- 6 sent, 7 unsent

-- the leg becomes the holder h on its link
abbrev pub installs : Leg → Held → Table → Table
installs g h t = with_held (insert earlier_held h t.held) (with_links (hold g.link (APeer h.peer) t.links) (drop_leg g.link t))

-- the answer a to the peer was sent: it is held, unheard
unfoldable pub promote : ℕ → Bytes → Answered → Leg → LinkRec → Table → Step
promote now p a g r t =
    let h : Held = record { peer = p; link = g.link; epoch = a.epoch; current = r.setup; heard = false; installed = now; last = None; setup = Some a.ephemeral } in
    let i : Installed = record { peer = p; link = g.link; pair = r.setup; build = Fresh; initiator = false; lease = g.lease } in
    let m : Memory = promoted t.params now a.ephemeral (memory p t.gates) in
    writes (Install i ∷ Reset p (if a.replaces then Replace else Promote) ∷ []) (with_gates (store m t.gates) (installs g h t))

-- on a dial leg it counts a resend; on an answer leg it only marks the leg if the peer is held
unfoldable pub sent : ℕ → ℕ → Table → Step
sent now n t = option (leg_at n t) (still t) λ g.
    option (answered g.kind) (still (with_legs (alter (on_link n) (resent t.params now) t.legs) t)) λ a.
    option g.peer (still t) λ p.
    if is (held_at p t) then still (with_legs (alter (on_link n) mark_sent t.legs) t)
    else option (link_at n t) (still t) λ r. promote now p a g r t

unfoldable pub unsent : ℕ → Table → Step
unsent n t = still (with_legs (alter (on_link n) mark_unsent t.legs) t)

-- ---- 8 msg2

-- the dial is complete: the peer is held, heard
unfoldable pub dialed : ℕ → Bytes → Leg → ℕ → Pair → Transition → Table → Step
dialed now p g epoch from how t =
    let h : Held = record { peer = p; link = g.link; epoch = epoch; current = from; heard = true; installed = now; last = None; setup = None } in
    let i : Installed = record { peer = p; link = g.link; pair = from; build = Fresh; initiator = true; lease = g.lease } in
    writes (Install i ∷ Reset p how ∷ []) (installs g h t)

abbrev pub moved_to : ℕ → Pair → Held → Held
moved_to n from h = record { peer = h.peer; link = n; epoch = h.epoch; current = from; heard = true; installed = h.installed; last = h.last; setup = h.setup }

-- an Install with the leg's lease; the old link is retired
unfoldable pub moveto : Bytes → Leg → Held → Pair → Table → Step
moveto p g h from t =
    let s : List LinkRec = hold g.link (APeer p) t.links in
    let i : Installed = record { peer = p; link = g.link; pair = from; build = FromCarry; initiator = true; lease = g.lease } in
    writes (Install i ∷ Reset p Move ∷ Retire h.link (retiring h.link s) ∷ [])
    (with_held (alter (named p) (moved_to g.link from) t.held) (with_links (retired h.link s) (drop_leg g.link t)))

abbrev pub outbound : Dir → Bool
outbound Inbound = false
outbound Outbound = true

-- the held link is one that this node dialed
unfoldable pub own : Held → Table → Bool
own h t = option (link_at h.link t) false λ r. outbound r.dir

-- installs a peer not held; another epoch removes the holder, then installs; the same epoch moves, or else keeps
unfoldable pub msg2 : ℕ → ℕ → ℕ → Pair → Table → Step
msg2 now n epoch from t = option (leg_at n t) (still t) λ g.
    option (dialing g) (still t) λ p.
    option (held_at p t) (dialed now p g epoch from Promote t) λ h.
    if not (eqb h.epoch epoch) then removed now p Why.OwnRestart h t ▸ dialed now p g epoch from Replace
    else (if own h t || before t.me p then moveto p g h from t
    else ends g t ▸ writes (Reset p Keep ∷ []))

-- ---- 9 restarted, 10 heard

abbrev pub with_epoch : ℕ → Held → Held
with_epoch epoch h = record { peer = h.peer; link = h.link; epoch = epoch; current = h.current; heard = h.heard; installed = h.installed; last = h.last; setup = h.setup }

unfoldable pub restarted : Bytes → ℕ → Table → Step
restarted p epoch t = option (held_at p t) (still t) λ h.
    writes (Reset p Transition.Restarted ∷ []) (with_held (alter (named p) (with_epoch epoch) t.held) t)

abbrev pub heard_from : ℕ → Pair → Held → Held
heard_from now from h = record { peer = h.peer; link = h.link; epoch = h.epoch; current = from; heard = true; installed = h.installed; last = Some now; setup = h.setup }

-- marks the peer heard, sets last to now, and takes a differing pair as current
unfoldable pub heard : ℕ → Bytes → Pair → Table → Step
heard now p from t = option (held_at p t) (still t) λ h.
    writes (if same_pair from h.current then [] else Reset p Roam ∷ [])
    (with_gates (store (clear (memory p t.gates)) t.gates) (with_held (alter (named p) (heard_from now from) t.held) t))

-- ---- 12 poll, 13 close

unfoldable pub abandons : List ℕ → Table → Step
abandons [] t = still t
abandons (n ∷ s) t = abandon n t ▸ abandons s

-- reaps deadline ≤ now (Free, Retire, ascending links), then repeats each Resend with next ≤ now
unfoldable pub poll : ℕ → Table → Step
poll now t = abandons (overdue now t.legs) t ▸ λ u. writes (resends now u.legs) u

unfoldable pub retireds : List ℕ → List LinkRec → List LinkRec
retireds [] s = s
retireds (n ∷ ns) s = retireds ns (retired n s)

unfoldable pub retirings : List ℕ → List LinkRec → List Pair
retirings [] s = []
retirings (n ∷ ns) s = retiring n s ++ retirings ns (retired n s)

-- Free for each leg, and one Close of all that their links' retirement closes, if there is any
unfoldable pub close_legs : Table → Step
close_legs t =
    let ns : List ℕ = map (λ g. g.link) t.legs in
    let ps : List Pair = retirings ns t.links in
    writes (map (λ g. Free g.lease) t.legs ++ (if empty ps then [] else Output.Close ps ∷ []))
    (with_links (retireds ns t.links) (with_legs [] t))

unfoldable pub removes : ℕ → List Bytes → Table → Step
removes now [] t = still t
removes now (p ∷ s) t = remove now p Why.Closed t ▸ removes now s

unfoldable pub close : ℕ → Table → Step
close now t = close_legs t ▸ removes now (map (λ h. h.peer) t.held)

-- ---- 14 path, 15 release

-- 7: live link, new pair, four paths already
unfoldable pub crowded : ℕ → Pair → Table → Bool
crowded n p t = option (link_at n t) false λ r. not (any (path_at p) r.paths) && leb 4 (length r.paths)

unfoldable pub add_path : ℕ → Pair → Proven → Table → Result
add_path n p v t = if crowded n p t then refuse 7 t else ok (still (with_links (path n p v t.links) t))

-- one Release output, its list perhaps empty
unfoldable pub release : ℕ → Pair → Bool → Table → Step
release n p kept t = writes (Output.Release n (releasing n p kept t.links) ∷ []) (with_links (released n p t.links) t)

-- ---- every call

unfoldable pub step : ℕ → Call → Table → Result
step now (Call.Dial p to m l) t = numbering t (entering p t (ok (dial now p to m l t)))
step now (Call.Abandon n) t = ok (abandon n t)
step now (Call.Arrived p b) t = ok (arrived p b t)
step now (Call.Msg1 x f) t = numbering t (msg1 now x f t)
step now (Call.Replacement x) t = numbering t (admit now Source.Replacement x t)
step now (Call.Sent n) t = ok (sent now n t)
step now (Call.Unsent n) t = ok (unsent n t)
step now (Call.Msg2 n e p) t = ok (msg2 now n e p t)
step now (Call.Restarted p e) t = ok (restarted p e t)
step now (Call.Heard p f) t = ok (heard now p f t)
step now (Call.Remove p w) t = ok (remove now p w t)
step now Call.Poll t = ok (poll now t)
step now Call.Close t = ok (close now t)
step now (Call.Path n p v) t = add_path n p v t
step now (Call.Release n p k) t = ok (release n p k t)
step now Call.Wake t = ok (writes (Output.Wake (next_wake t.legs) ∷ []) t)
