-- The calls gone through once: what each kind of change keeps, every call keeps.
use Rattle.std.specs.Prelude.{None, Option, Some}
use mathlib.Core.Path.{◌≡◌, refl}
use mathlib.Core.Bool.{Bool, true, false, not, ◌&&◌, ◌||◌}
use mathlib.Core.List.{List, [], ◌∷◌, map}
use mathlib.Core.Logic.{◌⊎◌, inl, inr}
use Prim.Native.Nat.{ℕ, ◌-◌, ◌^◌}
use lib.Dec.{eqb, leb, ltb}
use lib.ListN.{length}
use Rattle.rules.specs.Base.{option, is, Bytes, same, any, alter}
use Rattle.rules.specs.Std.{before}
use Rattle.rules.specs.Data.{Pair, LinkRec, Leg, Held, Answered, Table, Step, Result, Hello, Source, Why, Promote, Replace, Call, Proven}
use Rattle.rules.specs.Links.{path, released}
use Rattle.rules.specs.Legs.{on_link, answered, dialing, resent, mark_sent, mark_unsent, overdue}
use Rattle.rules.specs.Settle.{with_links, with_legs, ◌▸◌, link_at, leg_at, held_at, places, numbering, entering}
use Rattle.rules.specs.Settle.{dial, ends, abandon, stored, arrived, removed, remove, denied, asked, displaces, answer, stamp, admitted, admit, msg1, promote, sent, unsent, dialed, moveto, own, msg2, restarted, heard, abandons, poll, close_legs, removes, close, crowded, add_path, release, step}
use Rattle.rules.specs.Record.{Timed, read_call}
use Rattle.rules.specs.Entry.{call}
use Rattle.rules.specs.Claim.{Fed, play}
use Rattle.rules.specs.Claim as Claim
use Rattle.rules.proofs.Lists.{if_by, option_by}
use Rattle.rules.proofs.Good.{Good, leg_link, own_link}
use Rattle.rules.proofs.Calls.{leg_stays, good_stamp, fine_removed, fine_abandon, fine_remove, fine_close_legs, fair_call}

-- ---- what is known where a call changes the table

-- past refusal 4, and past 5 and 6
abbrev pub Numbers : Table → Type 0
Numbers t = eqb t.next (2 ^ 64 - 1) ≡ false

abbrev pub Room : Bytes → Table → Type 0
Room p t = (leb 32 (length t.links) ≡ false) × (not (any (same p) (places t)) && leb 32 (length (places t)) ≡ false)

-- the call brings the hello
abbrev pub Brings : Timed → Hello → Type 0
Brings x y = ((f : Bool) × (x.call ≡ Call.Msg1 y f)) ⊎ (x.call ≡ Call.Replacement y)

-- the call completes the dial leg g, found at its link, to the peer p
pub record Completes (x : Timed) (t : Table) (g : Leg) (p : Bytes) (epoch : ℕ) (from : Pair) : Type 0 where
  pub call : x.call ≡ Call.Msg2 g.link epoch from
  pub leg : leg_at g.link t ≡ Some g
  pub peer : g.peer ≡ Some p

-- Each kind of change that the call x makes keeps P. Every field gets the values that x brings, what is known there,
-- the table before it as a good one, and P of it.
pub record Closed (P : Table → Type 0) (x : Timed) : Type 0 where
  -- 1 dial
  pub dials : (t : Table) (p : Bytes) (to : Pair) (msg1 : Bytes) (lease : ℕ) → x.call ≡ Call.Dial p to msg1 lease → Numbers t → Room p t → Good t → P t
      → P (dial x.now p to msg1 lease t).table
  -- 4 msg1 and 5 replacement: a peer not held; one whose holder h goes, once stamped
  pub answers : (t : Table) (y : Hello) → Brings x y → held_at y.peer t ≡ None → Numbers t → Room y.peer t → Good t → P t
      → P (answer x.now y false t).table
  pub stamps : (t : Table) (y : Hello) (h : Held) → Brings x y → held_at y.peer t ≡ Some h → Good t → P t → P (stamp x.now h t)
  pub displaced : (t : Table) (y : Hello) (s : Source) (h : Held) → Brings x y → held_at y.peer t ≡ Some h → Numbers t → Good t → P t
      → let u : Table = (removed x.now y.peer (displaces s) h (stamp x.now h t)).table in
      Good u → P u → P (answer x.now y true u).table
  -- 6 sent and 7 unsent: on a dial leg; an answer leg marked; its peer held
  pub resends : (t : Table) (n : ℕ) → Good t → P t → P (with_legs (alter (on_link n) (resent t.params x.now) t.legs) t)
  pub sents : (t : Table) (n : ℕ) → Good t → P t → P (with_legs (alter (on_link n) mark_sent t.legs) t)
  pub unsents : (t : Table) (n : ℕ) → Good t → P t → P (with_legs (alter (on_link n) mark_unsent t.legs) t)
  pub promotes : (t : Table) (p : Bytes) (a : Answered) (g : Leg) (r : LinkRec) → leg_at g.link t ≡ Some g → answered g.kind ≡ Some a → g.peer ≡ Some p
      → held_at p t ≡ None → link_at g.link t ≡ Some r → Good t → P t → P (promote x.now p a g r t).table
  -- 8 msg2: the peer not held; its holder h gone; the holder moved
  pub completes : (t : Table) (p : Bytes) (g : Leg) (epoch : ℕ) (from : Pair) → Completes x t g p epoch from → held_at p t ≡ None → Good t → P t
      → P (dialed x.now p g epoch from Promote t).table
  pub replaces : (t : Table) (p : Bytes) (g : Leg) (h : Held) (epoch : ℕ) (from : Pair) → Completes x t g p epoch from → held_at p t ≡ Some h → Good t → P t
      → let u : Table = (removed x.now p Why.OwnRestart h t).table in
      leg_at g.link u ≡ Some g → Good u → P u → P (dialed x.now p g epoch from Replace u).table
  pub moves : (t : Table) (p : Bytes) (g : Leg) (h : Held) (epoch : ℕ) (from : Pair) → Completes x t g p epoch from → held_at p t ≡ Some h → Good t → P t
      → P (moveto p g h from t).table
  -- 9 restarted, 10 heard
  pub restarts : (t : Table) (p : Bytes) (epoch : ℕ) → x.call ≡ Call.Restarted p epoch → Good t → P t → P (restarted p epoch t).table
  pub hears : (t : Table) (p : Bytes) (from : Pair) → x.call ≡ Call.Heard p from → Good t → P t → P (heard x.now p from t).table
  -- 14 path, 15 release
  pub paths : (t : Table) (n : ℕ) (p : Pair) (v : Proven) → x.call ≡ Call.Path n p v → crowded n p t ≡ false → Good t → P t
      → P (with_links (path n p v t.links) t)
  pub releases : (t : Table) (n : ℕ) (p : Pair) (kept : Bool) → x.call ≡ Call.Release n p kept → Good t → P t → P (with_links (released n p t.links) t)
  -- a leg ends: 2 abandon, 8 msg2, 12 poll; a holder goes: 4, 5, 8, 11 remove, 13 close; all legs end: 13
  pub leg_ends : (t : Table) (g : Leg) → leg_at g.link t ≡ Some g → Good t → P t → P (ends g t).table
  pub holder_goes : (t : Table) (p : Bytes) (why : Why) (h : Held) → held_at p t ≡ Some h → Good t → P t → P (removed x.now p why h t).table
  pub legs_end : (t : Table) → Good t → P t → P (close_legs t).table

-- ---- one call

not_held : (o : Option Held) → is o ≡ false → o ≡ None
not_held None e = refl
not_held (Some h) e = cc

dialing_peer : (g : Leg) (p : Bytes) → dialing g ≡ Some p → g.peer ≡ Some p
dialing_peer g p e = go (answered g.kind) e
  where
    go : (o : Option Answered) → option o g.peer (λ a. None) ≡ Some p → g.peer ≡ Some p
    go None f = f
    go (Some a) f = cc

module _ (P : Table → Type 0) (x : Timed) (c : Closed P x) where
  Q : Step → Type 0
  Q s = P s.table

  R : Result → Type 0
  R d = P d.step.table

  walk_abandon : (n : ℕ) (t : Table) → Good t → P t → Q (abandon n t)
  unfolding abandon Q
  walk_abandon n t k y = option_by Q (leg_at n t) (λ e. y) (λ g e. c.leg_ends t g (own_link t n g e) k y)

  walk_abandons : (ns : List ℕ) (t : Table) → Good t → P t → Q (abandons ns t)
  unfolding abandons ◌▸◌ Q
  walk_abandons [] t k y = y
  walk_abandons (n ∷ ns) t k y = walk_abandons ns (abandon n t).table (fine_abandon n t k).good (walk_abandon n t k y)

  walk_remove : (p : Bytes) (why : Why) (t : Table) → Good t → P t → Q (remove x.now p why t)
  unfolding remove Q
  walk_remove p why t k y = option_by Q (held_at p t) (λ e. y) (λ h e. c.holder_goes t p why h e k y)

  walk_removes : (ps : List Bytes) (t : Table) → Good t → P t → Q (removes x.now ps t)
  unfolding removes ◌▸◌ Q
  walk_removes [] t k y = y
  walk_removes (p ∷ ps) t k y = walk_removes ps (remove x.now p Why.Closed t).table (fine_remove x.now p Why.Closed t k).good (walk_remove p Why.Closed t k y)

  walk_arrived : (p : Pair) (b : Bytes) (t : Table) → P t → Q (arrived p b t)
  unfolding arrived Q
  walk_arrived p b t y = option_by Q (stored p b t) (λ e. y) (λ o e. y)

  walk_numbering : (t : Table) (d : Result) → (Numbers t → R d) → P t → R (numbering t d)
  unfolding numbering R
  walk_numbering t d f y = if_by R (eqb t.next (2 ^ 64 - 1)) (λ e. y) f

  walk_entering : (p : Bytes) (t : Table) (d : Result) → (Room p t → R d) → P t → R (entering p t d)
  unfolding entering R
  walk_entering p t d f y = if_by R (leb 32 (length t.links)) (λ a. y) (λ a. if_by R (not (any (same p) (places t)) && leb 32 (length (places t))) (λ b. y) (λ b. f (a, b)))

  walk_admit : (s : Source) (z : Hello) → Brings x z → (t : Table) → Numbers t → Good t → P t → R (admit x.now s z t)
  unfolding admit admitted stamp ◌▸◌ R
  walk_admit s z b t n k y =
      let j : Source = asked s (held_at z.peer t) in
      option_by R (denied x.now j z t)
      (λ e. option_by R (held_at z.peer t) (λ w. walk_entering z.peer t _ (λ r. c.answers t z b w n r k y) y) (λ h w. over j h w))
      (λ why e. y)
    where
      over : (j : Source) (h : Held) → held_at z.peer t ≡ Some h → P (answer x.now z true (removed x.now z.peer (displaces j) h (stamp x.now h t)).table).table
      over j h w =
          let u : Table = stamp x.now h t in
          let ku = good_stamp x.now h t k in
          c.displaced t z j h b w n k y (fine_removed x.now z.peer (displaces j) h u w ku).good (c.holder_goes u z.peer (displaces j) h w ku (c.stamps t z h b w k y))

  walk_msg1 : (z : Hello) (f : Bool) → Brings x z → (t : Table) → Numbers t → Good t → P t → R (msg1 x.now z f t)
  unfolding msg1 R
  walk_msg1 z f b t n k y = option_by R (stored z.from z.bytes t)
      (λ e. option_by R (held_at z.peer t) (λ w. walk_admit Source.NotHeld z b t n k y)
      (λ h w. if_by R (not (eqb h.epoch z.epoch)) (λ q. walk_admit Source.Restart z b t n k y) (λ q. y)))
      (λ o e. y)

  walk_sent : (n : ℕ) (t : Table) → Good t → P t → Q (sent x.now n t)
  unfolding sent Q
  walk_sent n t k y = option_by Q (leg_at n t) (λ e. y) λ g e.
      option_by Q (answered g.kind) (λ z. c.resends t n k y) λ a z.
      option_by Q g.peer (λ v. y) λ p v.
      if_by Q (is (held_at p t)) (λ w. c.sents t n k y)
      (λ w. option_by Q (link_at n t) (λ u. y) λ r u. c.promotes t p a g r (own_link t n g e) z v (not_held (held_at p t) w) (rw (leg_link t n g e) at u) k y)

  walk_msg2 : (n epoch : ℕ) (from : Pair) → x.call ≡ Call.Msg2 n epoch from → (t : Table) → Good t → P t → Q (msg2 x.now n epoch from t)
  unfolding msg2 ◌▸◌ Q
  walk_msg2 n epoch from q t k y = option_by Q (leg_at n t) (λ e. y) λ g e.
      option_by Q (dialing g) (λ z. y) λ p z.
      option_by Q (held_at p t) (λ w. c.completes t p g epoch from (known g p e z) w k y) λ h w.
      if_by Q (not (eqb h.epoch epoch))
      (λ v. c.replaces t p g h epoch from (known g p e z) w k y (leg_stays x.now p Why.OwnRestart h t g (own_link t n g e)) (fine_removed x.now p Why.OwnRestart h t w k).good (c.holder_goes t p Why.OwnRestart h w k y))
      (λ v. if_by Q (own h t || before t.me p) (λ u. c.moves t p g h epoch from (known g p e z) w k y) (λ u. c.leg_ends t g (own_link t n g e) k y))
    where
      known : (g : Leg) (p : Bytes) → leg_at n t ≡ Some g → dialing g ≡ Some p → Completes x t g p epoch from
      known g p e z = record { call = rw (leg_link t n g e) at q; leg = own_link t n g e; peer = dialing_peer g p z }

  walk_add_path : (n : ℕ) (p : Pair) (v : Proven) → x.call ≡ Call.Path n p v → (t : Table) → Good t → P t → R (add_path n p v t)
  unfolding add_path R
  walk_add_path n p v q t k y = if_by R (crowded n p t) (λ e. y) (λ e. c.paths t n p v q e k y)

  walk_step : (d : Call) → x.call ≡ d → (t : Table) → Good t → P t → R (step x.now d t)
  unfolding step unsent poll close release ◌▸◌ Q R
  walk_step (Call.Dial p to m l) q t k y = walk_numbering t _ (λ n. walk_entering p t _ (λ r. c.dials t p to m l q n r k y) y) y
  walk_step (Call.Abandon n) q t k y = walk_abandon n t k y
  walk_step (Call.Arrived p b) q t k y = walk_arrived p b t y
  walk_step (Call.Msg1 z f) q t k y = walk_numbering t _ (λ n. walk_msg1 z f (inl (f, q)) t n k y) y
  walk_step (Call.Replacement z) q t k y = walk_numbering t _ (λ n. walk_admit Source.Replacement z (inr q) t n k y) y
  walk_step (Call.Sent n) q t k y = walk_sent n t k y
  walk_step (Call.Unsent n) q t k y = c.unsents t n k y
  walk_step (Call.Msg2 n e p) q t k y = walk_msg2 n e p q t k y
  walk_step (Call.Restarted p e) q t k y = c.restarts t p e q k y
  walk_step (Call.Heard p f) q t k y = c.hears t p f q k y
  walk_step (Call.Remove p w) q t k y = walk_remove p w t k y
  walk_step Call.Poll q t k y = walk_abandons (overdue x.now t.legs) t k y
  walk_step Call.Close q t k y = walk_removes (map (λ h. h.peer) t.held) (close_legs t).table (fine_close_legs t k).good (c.legs_end t k y)
  walk_step (Call.Path n p v) q t k y = walk_add_path n p v q t k y
  walk_step (Call.Release n p f) q t k y = c.releases t n p f q k y
  walk_step Call.Wake q t k y = y

-- ---- every record, and every list of them

module _ (P : Table → Type 0) (closed : (s : Bytes) (x : Timed) → read_call s ≡ Some x → Closed P x) where
  pub walk : (s : Bytes) (buffer : ℕ) (t : Table) → Good t → P t → P (call s buffer t).step.table
  unfolding call R
  walk s buffer t k y = if_by S (ltb buffer 10_240) (λ e. y)
      (λ e. option_by S (read_call s) (λ w. y) (λ x w. walk_step P x (closed s x w) x.call refl t k y))
    where
      S : Result → Type 0
      S d = P d.step.table

  pub walks : (s : List Fed) (t : Table) → Good t → P t → P (play s t).table
  unfolding play ◌▸◌
  walks [] t k y = y
  walks (x ∷ s) t k y = walks s (Claim.answer x t).step.table (fair_call x t k).good (walk x.bytes x.buffer t k y)
