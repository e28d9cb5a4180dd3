-- Each call keeps the invariant and the leases, and closes nothing in use.
use Rattle.std.specs.Prelude.{if◌then◌else◌, None, Option, Some}
use mathlib.Core.Path.{◌≡◌, refl, ap}
use mathlib.Core.Bool.{Bool, true, false, not, ◌&&◌, ◌||◌}
use mathlib.Core.List.{List, [], ◌∷◌, map}
use mathlib.Core.Logic.{◌⊎◌, inl, inr}
use Prim.Native.Nat.{ℕ, ◌+◌, ◌-◌, ◌^◌, ◌≤◌}
use native.Mathlib.Omega.{arith}
use lib.Dec.{eqb, leb, ltb}
use lib.ListN.{length}
use Rattle.rules.specs.Base.{option, is, Bytes, same, empty, any, keep, alter, tally, one, All}
use Rattle.rules.specs.Std.{before}
use Rattle.rules.specs.Data.{Pair, same_pair, APeer, Proven, LinkRec, Leg, Held, Memory, Table, Hello, Call, Source, Why, Transition, Installed, Output, Step, Result}
use Rattle.rules.specs.Data.{Resend, Install, Reset, Free, Retry, Replace, Keep}
use Rattle.rules.specs.Links.{numbered, in_use, opened, hold, path, with_path, retired, retiring, without_path, released, releasing}
use Rattle.rules.specs.Legs.{on_link, answered, dialing, dial_leg, answer_leg, resent, mark_sent, mark_unsent, due, overdue, resends}
use Rattle.rules.specs.Settle.{with_links, with_legs, with_held, with_gates, joined, writes, still, ◌▸◌, ok, refuse, link_at, leg_at, named, held_at, places, numbering, entering}
use Rattle.rules.specs.Settle.{dial, ends, abandon, stored, full, arrived, closes, retries, removed, remove, denied, asked, displaces, answer, stamp, admitted, admit, msg1, installs, promote, sent, unsent, dialed, moved_to, moveto, own, msg2, with_epoch, restarted, heard_from, heard, abandons, poll, retireds, retirings, close_legs, removes, close, crowded, add_path, release, step}
use Rattle.rules.specs.Record.{Timed, read_call}
use Rattle.rules.specs.Entry.{call}
use Rattle.rules.specs.Claim.{Fed, lease_of, lease_in, is_lease, gives, given, records_on, held_on, lists, Unused}
use Rattle.rules.specs.Claim as Claim
use Rattle.rules.proofs.Lists.{if_by, option_by, eqb_sound, eqb_same, tally_append, tally_insert, all_append, all_map, tally_alter, tally_alter_same}
use Rattle.rules.proofs.Good.{Good, Less, Idle, Fine, Fair, nothing, good_less, both, both_less, less_retired, records_hold, idle_retiring, records_retired, own_link, legs_less, leases_less, leg_record, held_less, held_record}

-- ---- outputs that give no lease and list no pair

abbrev Plain : Output → Type 0
Plain o = ((l : ℕ) → gives l o ≡ 0) × (lists o ≡ [])

plain_given : (os : List Output) → All Plain os → (l : ℕ) → given l os ≡ 0
plain_given [] a l = refl
plain_given (o ∷ os) a l = omega (arith, a.0.0 l, plain_given os a.1 l)

plain_unused : (s : List LinkRec) (os : List Output) → All Plain os → Unused s os
plain_unused s [] a = tt
plain_unused s (o ∷ os) a = (rw a.0.1 tt, plain_unused s os a.1)

plain_map : {A : Type 0} (f : A → Output) → ((a : A) → Plain (f a)) → (s : List A) → All Plain (map f s)
plain_map f h [] = tt
plain_map f h (a ∷ s) = (h a, plain_map f h s)

-- they change nothing
fine_outs : (t : Table) (os : List Output) → All Plain os → Good t → Fine t nothing (writes os t)
fine_outs t os a k = record { good = k; lease = λ l. omega (arith, plain_given os a l); unused = plain_unused t.links os a }

fine_says : (t : Table) (o : Output) → Plain o → Good t → Fine t nothing (writes (o ∷ []) t)
fine_says t o a k = fine_outs t (o ∷ []) (a, tt) k

pub fine_still : (t : Table) → Good t → Fine t nothing (still t)
fine_still t k = fine_outs t [] tt k

-- they give the lease at hand back, once, and change nothing
fine_back : (t : Table) (os : List Output) (lease : ℕ) → ((l : ℕ) → given l os ≡ one (eqb l lease)) → Unused t.links os → Good t → Fine t (λ l. one (eqb l lease)) (writes os t)
fine_back t os lease a q k = record { good = k; lease = λ l. omega (arith, a l); unused = q }

-- ---- a new link with its leg

-- a number is another's, or its own once
counted : (m n : ℕ) → (one (eqb m n) ≡ 0) ⊎ ((m ≡ n) × (one (eqb m n) ≡ 1))
counted m n = go (eqb m n) refl
  where
    go : (b : Bool) → eqb m n ≡ b → (one b ≡ 0) ⊎ ((m ≡ n) × (one b ≡ 1))
    go true e = inr (eqb_sound m n e, refl)
    go false e = inl refl

module _ (t : Table) (r : LinkRec) (g : Leg) (rn : r.no ≡ t.next) (gn : g.link ≡ t.next) (k : Good t) where
  good_joined : Good (joined r g t)
  good_joined = record {
    owned = record {
      one_owner = λ m. simp (tally_append, rn, gn) (omega (arith, k.owned.one_owner m));
      one_record = λ m. simp (tally_append, rn) (record_once m (counted m t.next));
    };
    below = λ m b. simp (tally_append, rn) (none_above m b (counted m t.next));
  }
    where
      record_once : (m : ℕ) → (one (eqb m t.next) ≡ 0) ⊎ ((m ≡ t.next) × (one (eqb m t.next) ≡ 1)) → records_on m t + (one (eqb m t.next) + 0) ≤ 1
      record_once m (inl z) = omega (arith, k.owned.one_record m)
      record_once m (inr z) = omega (arith, k.below m (omega arith))

      none_above : (m : ℕ) → (joined r g t).next ≤ m → (one (eqb m t.next) ≡ 0) ⊎ ((m ≡ t.next) × (one (eqb m t.next) ≡ 1)) → records_on m t + (one (eqb m t.next) + 0) ≡ 0
      none_above m b (inl z) = omega (arith, k.below m (omega arith))
      none_above m b (inr z) = omega arith

  fine_joined : (o : Output) → Plain o → Fine t (λ l. one (eqb l g.lease)) (writes (o ∷ []) (joined r g t))
  fine_joined o a = record {
    good = good_joined;
    lease = λ l. simp (tally_append, a.0) (omega arith);
    unused = (rw a.1 tt, tt);
  }

-- refusals 4, 5 and 6
fair_numbering : (t : Table) (d : Result) (got : ℕ → ℕ) → Good t → Fair t got d → Fair t got (numbering t d)
unfolding numbering
fair_numbering t d got k x = if_by (Fair t got) (eqb t.next (2 ^ 64 - 1)) (λ e. fine_still t k) (λ e. x)

fair_entering : (p : Bytes) (t : Table) (d : Result) (got : ℕ → ℕ) → Good t → Fair t got d → Fair t got (entering p t d)
unfolding entering
fair_entering p t d got k x = if_by (Fair t got) (leb 32 (length t.links)) (λ e. fine_still t k)
    (λ e. if_by (Fair t got) (not (any (same p) (places t)) && leb 32 (length (places t))) (λ q. fine_still t k) (λ q. x))

fine_dial : (now : ℕ) (p : Bytes) (to : Pair) (m : Bytes) (lease : ℕ) (t : Table) → Good t → Fine t (λ l. one (eqb l lease)) (dial now p to m lease t)
unfolding dial opened dial_leg
fine_dial now p to m lease t k = fine_joined t _ _ refl refl k _ (λ l. refl, refl)

fine_answer : (now : ℕ) (x : Hello) (b : Bool) (t : Table) → Good t → Fine t (λ l. one (eqb l x.lease)) (answer now x b t)
unfolding answer opened answer_leg
fine_answer now x b t k = fine_joined t _ _ refl refl k _ (λ l. refl, refl)

-- ---- a leg ends, a holder goes

pub fine_ends : (g : Leg) (t : Table) → leg_at g.link t ≡ Some g → Good t → Fine t nothing (ends g t)
unfolding ends
fine_ends g t e k =
    let gone = records_retired g.link t.links (leg_record t g.link g e k) in
    record {
      good = good_less (λ m. one (eqb m g.link)) refl gone (λ m. omega (arith, legs_less t g.link g e m)) k;
      lease = λ l. omega (arith, leases_less t g.link g e l);
      unused = (tt, (idle_retiring g.link t.links, tt));
    }

pub fine_abandon : (n : ℕ) (t : Table) → Good t → Fine t nothing (abandon n t)
unfolding abandon
fine_abandon n t k = option_by (Fine t nothing) (leg_at n t) (λ e. fine_still t k) (λ g e. fine_ends g t (own_link t n g e) k)

plain_retry : (p : Bytes) (b : Bool) → All Plain (if b then Retry p ∷ [] else [])
plain_retry p b = if_by (All Plain) b (λ e. ((λ l. refl, refl), tt)) (λ e. tt)

pub fine_removed : (now : ℕ) (p : Bytes) (why : Why) (h : Held) (t : Table) → held_at p t ≡ Some h → Good t → Fine t nothing (removed now p why h t)
unfolding removed
fine_removed now p why h t e k =
    let gone = records_retired h.link t.links (held_record t p h e k) in
    let u : List LinkRec = retired h.link t.links in
    let retry : List Output = if retries why then Retry p ∷ [] else [] in
    record {
      good = good_less (λ m. one (eqb m h.link)) refl gone (λ m. omega (arith, held_less t p h e m)) k;
      lease = λ l. omega (arith, plain_given retry (plain_retry p (retries why)) l);
      unused = (tt, (if_by (Idle u) (closes why) (λ z. idle_retiring h.link t.links) (λ z. tt), plain_unused u retry (plain_retry p (retries why))));
    }

pub fine_remove : (now : ℕ) (p : Bytes) (why : Why) (t : Table) → Good t → Fine t nothing (remove now p why t)
unfolding remove
fine_remove now p why t k = option_by (Fine t nothing) (held_at p t) (λ e. fine_still t k) (λ h e. fine_removed now p why h t e k)

-- ---- 3 arrived, 4 msg1, 5 replacement

fine_arrived : (p : Pair) (b : Bytes) (t : Table) → Good t → Fine t nothing (arrived p b t)
unfolding arrived
fine_arrived p b t k = option_by (Fine t nothing) (stored p b t)
    (λ e. if_by (λ (os : List Output). Fine t nothing (writes os t)) (full t) (λ q. fine_says t _ (λ l. refl, refl) k) (λ q. fine_still t k))
    (λ o e. fine_says t _ (λ l. refl, refl) k)

-- who displaces a holder closes nothing
keeps : (s : Source) → closes (displaces s) ≡ false
keeps Source.NotHeld = refl
keeps Source.Restart = refl
keeps Source.Replacement = refl
keeps Source.OwnMsg2 = refl
keeps Source.RekeyMsg2 = refl

-- a removal that closes nothing lists nothing
unused_removed : (now : ℕ) (p : Bytes) (why : Why) (h : Held) (t : Table) (s : List LinkRec) → closes why ≡ false → Unused s (removed now p why h t).outs
unfolding removed
unused_removed now p why h t s e = (tt, (rw e tt, plain_unused s (if retries why then Retry p ∷ [] else []) (plain_retry p (retries why))))

-- the stamp is no part of the invariant
pub good_stamp : (now : ℕ) (h : Held) (t : Table) → Good t → Good (stamp now h t)
unfolding stamp
good_stamp now h t k = record { owned = record { one_owner = k.owned.one_owner; one_record = k.owned.one_record }; below = k.below }

fair_admitted : (now : ℕ) (s : Source) (x : Hello) (t : Table) → Good t → Fair t (λ l. one (eqb l x.lease)) (admitted now s x t)
unfolding admitted stamp
fair_admitted now s x t k = option_by (Fair t (λ l. one (eqb l x.lease))) (held_at x.peer t)
    (λ e. fair_entering x.peer t _ _ k (fine_answer now x false t k)) (λ h e. over h e)
  where
    over : (h : Held) → held_at x.peer t ≡ Some h → Fine t (λ l. one (eqb l x.lease)) (removed now x.peer (displaces s) h (stamp now h t) ▸ answer now x true)
    over h e =
        let u : Table = stamp now h t in
        let a = fine_removed now x.peer (displaces s) h u e (good_stamp now h t k) in
        let b = fine_answer now x true (removed now x.peer (displaces s) h u).table a.good in
        let z = both (answer now x true) a b (unused_removed now x.peer (displaces s) h u _ (keeps s)) in
        record { good = z.good; lease = z.lease; unused = z.unused }

fair_admit : (now : ℕ) (s : Source) (x : Hello) (t : Table) → Good t → Fair t (λ l. one (eqb l x.lease)) (admit now s x t)
unfolding admit
fair_admit now s x t k =
    let j : Source = asked s (held_at x.peer t) in
    option_by (Fair t (λ l. one (eqb l x.lease))) (denied now j x t) (λ e. fair_admitted now j x t k)
    (λ why e. fine_back t _ x.lease (λ l. omega arith) (tt, (tt, tt)) k)

fair_msg1 : (now : ℕ) (x : Hello) (f : Bool) (t : Table) → Good t → Fair t (λ l. one (eqb l x.lease)) (msg1 now x f t)
unfolding msg1
fair_msg1 now x f t k = option_by P (stored x.from x.bytes t)
    (λ e. option_by P (held_at x.peer t) (λ n. fair_admit now Source.NotHeld x t k)
    (λ h n. if_by P (not (eqb h.epoch x.epoch)) (λ q. fair_admit now Source.Restart x t k) (λ q. fine_back t _ x.lease (λ l. omega arith) (tt, (tt, tt)) k)))
    (λ o e. fine_back t _ x.lease (λ l. omega arith) (tt, (tt, tt)) k)
  where
    P : Result → Type 0
    P = Fair t (λ l. one (eqb l x.lease))

-- ---- 6 sent, 7 unsent

-- legs changed, none in its link or lease
fine_legs : (t : Table) (test : Leg → Bool) (f : Leg → Leg) → ((g : Leg) → (f g).link ≡ g.link) → ((g : Leg) → (f g).lease ≡ g.lease) → Good t
    → Fine t nothing (still (with_legs (alter test f t.legs) t))
fine_legs t test f a b k = record {
  good = good_less nothing refl (λ m. omega arith) (λ m. omega (arith, tally_alter_same test (λ g. one (on_link m g)) f (λ g. ap (λ (n : ℕ). one (eqb m n)) (a g)) t.legs)) k;
  lease = λ l. omega (arith, tally_alter_same test (λ g. one (eqb l g.lease)) f (λ g. ap (λ (n : ℕ). one (eqb l n)) (b g)) t.legs);
  unused = tt;
}

-- the leg becomes a holder on its link; any gates
fine_installs : (t : Table) (g : Leg) (h : Held) (i : Installed) (how : Transition) (m : List Memory) → h.link ≡ g.link → i.lease ≡ g.lease → leg_at g.link t ≡ Some g → Good t
    → Fine t nothing (writes (Install i ∷ Reset h.peer how ∷ []) (with_gates m (installs g h t)))
fine_installs t g h i how m a b e k =
    let s : List LinkRec = t.links in
    record {
      good = good_less nothing refl (λ n. omega (arith, records_hold g.link (APeer h.peer) s n)) (λ n. simp (tally_insert, a) (omega (arith, legs_less t g.link g e n))) k;
      lease = λ l. simp b (omega (arith, leases_less t g.link g e l));
      unused = (tt, (tt, tt));
    }

fine_sent : (now n : ℕ) (t : Table) → Good t → Fine t nothing (sent now n t)
unfolding sent resent promote
fine_sent now n t k = option_by P (leg_at n t) (λ e. fine_still t k) λ g e.
    option_by P (answered g.kind) (λ q. fine_legs t (on_link n) (resent t.params now) (λ j. refl) (λ j. refl) k) λ a q.
    option_by P g.peer (λ q. fine_still t k) λ p w.
    if_by P (is (held_at p t)) (λ z. fine_legs t (on_link n) mark_sent (λ j. refl) (λ j. refl) k)
    (λ z. option_by P (link_at n t) (λ y. fine_still t k) λ r y. fine_installs t g _ _ _ _ refl refl (own_link t n g e) k)
  where
    P : Step → Type 0
    P = Fine t nothing

fine_unsent : (n : ℕ) (t : Table) → Good t → Fine t nothing (unsent n t)
unfolding unsent
fine_unsent n t k = fine_legs t (on_link n) mark_unsent (λ j. refl) (λ j. refl) k

-- ---- 8 msg2

fine_dialed : (now : ℕ) (p : Bytes) (g : Leg) (epoch : ℕ) (from : Pair) (how : Transition) (t : Table) → leg_at g.link t ≡ Some g → Good t → Fine t nothing (dialed now p g epoch from how t)
unfolding dialed
fine_dialed now p g epoch from how t e k = fine_installs t g _ _ how t.gates refl refl e k

fine_moveto : (p : Bytes) (g : Leg) (h : Held) (from : Pair) (t : Table) → leg_at g.link t ≡ Some g → held_at p t ≡ Some h → Good t → Fine t nothing (moveto p g h from t)
unfolding moveto
fine_moveto p g h from t e w k =
    let s : List LinkRec = hold g.link (APeer p) t.links in
    let kept = records_hold g.link (APeer p) t.links in
    let gone = records_retired h.link s (rw (kept h.link) (held_record t p h w k)) in
    let moved : (m : ℕ) → tally (λ j. one (eqb m j.link)) (alter (named p) (moved_to g.link from) t.held) + one (eqb m h.link) ≡ held_on m t + one (eqb m g.link) =
    λ m. tally_alter (named p) (λ j. one (eqb m j.link)) (moved_to g.link from) t.held h w in
    record {
      good = good_less (λ m. one (eqb m h.link)) refl (λ m. omega (arith, gone m, kept m)) (λ m. omega (arith, legs_less t g.link g e m, moved m)) k;
      lease = λ l. omega (arith, leases_less t g.link g e l);
      unused = (tt, (tt, (idle_retiring h.link s, tt)));
    }

-- a leg is there still once a holder is gone
pub leg_stays : (now : ℕ) (p : Bytes) (why : Why) (h : Held) (t : Table) (g : Leg) → leg_at g.link t ≡ Some g → leg_at g.link (removed now p why h t).table ≡ Some g
unfolding removed
leg_stays now p why h t g e = e

fine_msg2 : (now n epoch : ℕ) (from : Pair) (t : Table) → Good t → Fine t nothing (msg2 now n epoch from t)
unfolding msg2
fine_msg2 now n epoch from t k = option_by P (leg_at n t) (λ e. fine_still t k) λ g e.
    option_by P (dialing g) (λ d. fine_still t k) λ p d.
    option_by P (held_at p t) (λ w. fine_dialed now p g epoch from _ t (own_link t n g e) k) λ h w.
    if_by P (not (eqb h.epoch epoch)) (λ z. anew g (own_link t n g e) p h w)
    (λ z. if_by P (own h t || before t.me p) (λ y. fine_moveto p g h from t (own_link t n g e) w k) (λ y. kept g (own_link t n g e) p))
  where
    P : Step → Type 0
    P = Fine t nothing

    anew : (g : Leg) → leg_at g.link t ≡ Some g → (p : Bytes) (h : Held) → held_at p t ≡ Some h → P (removed now p Why.OwnRestart h t ▸ dialed now p g epoch from Replace)
    anew g e p h w =
        let a = fine_removed now p Why.OwnRestart h t w k in
        let b = fine_dialed now p g epoch from Replace (removed now p Why.OwnRestart h t).table (leg_stays now p Why.OwnRestart h t g e) a.good in
        both (dialed now p g epoch from Replace) a b (unused_removed now p Why.OwnRestart h t _ refl)

    kept : (g : Leg) → leg_at g.link t ≡ Some g → (p : Bytes) → P (ends g t ▸ writes (Reset p Keep ∷ []))
    kept g e p =
        let a = fine_ends g t e k in
        both (writes (Reset p Keep ∷ [])) a (fine_says (ends g t).table (Reset p Keep) (λ l. refl, refl) a.good) a.unused

-- ---- 9 restarted, 10 heard

-- holders changed, none in its link; any gates
fine_held : (t : Table) (test : Held → Bool) (f : Held → Held) (m : List Memory) (os : List Output) → ((h : Held) → (f h).link ≡ h.link) → All Plain os → Good t
    → Fine t nothing (writes os (with_gates m (with_held (alter test f t.held) t)))
fine_held t test f m os a z k = record {
  good = good_less nothing refl (λ n. omega arith) (λ n. omega (arith, tally_alter_same test (λ h. one (eqb n h.link)) f (λ h. ap (λ (i : ℕ). one (eqb n i)) (a h)) t.held)) k;
  lease = λ l. omega (arith, plain_given os z l);
  unused = plain_unused t.links os z;
}

fine_restarted : (p : Bytes) (epoch : ℕ) (t : Table) → Good t → Fine t nothing (restarted p epoch t)
unfolding restarted
fine_restarted p epoch t k = option_by (Fine t nothing) (held_at p t) (λ e. fine_still t k)
    (λ h e. fine_held t (named p) (with_epoch epoch) t.gates _ (λ j. refl) ((λ l. refl, refl), tt) k)

fine_heard : (now : ℕ) (p : Bytes) (from : Pair) (t : Table) → Good t → Fine t nothing (heard now p from t)
unfolding heard
fine_heard now p from t k = option_by (Fine t nothing) (held_at p t) (λ e. fine_still t k)
    (λ h e. fine_held t (named p) (heard_from now from) _ _ (λ j. refl) (if_by (All Plain) (same_pair from h.current) (λ z. tt) (λ z. ((λ l. refl, refl), tt))) k)

-- ---- 12 poll

less_abandon : (n : ℕ) (t : Table) → Less t.links (abandon n t).table.links
unfolding abandon ends
less_abandon n t = option_by (λ (s : Step). Less t.links s.table.links) (leg_at n t) (λ e p h. h) (λ g e. less_retired g.link t.links)

less_abandons : (ns : List ℕ) (t : Table) → Less t.links (abandons ns t).table.links
unfolding abandons ◌▸◌
less_abandons [] t p h = h
less_abandons (n ∷ ns) t p h = less_abandons ns (abandon n t).table p (less_abandon n t p h)

fine_abandons : (ns : List ℕ) (t : Table) → Good t → Fine t nothing (abandons ns t)
unfolding abandons
fine_abandons [] t k = fine_still t k
fine_abandons (n ∷ ns) t k =
    let a = fine_abandon n t k in
    both_less (abandons ns) a (fine_abandons ns (abandon n t).table a.good) (less_abandons ns (abandon n t).table)

plain_resends : (now : ℕ) (s : List Leg) → All Plain (resends now s)
unfolding resends
plain_resends now s = plain_map (λ g. Resend g.link g.msg1) (λ g. (λ l. refl, refl)) (keep (λ g. option g.next false (due now)) s)

fine_poll : (now : ℕ) (t : Table) → Good t → Fine t nothing (poll now t)
unfolding poll
fine_poll now t k =
    let a = fine_abandons (overdue now t.legs) t k in
    let u : Table = (abandons (overdue now t.legs) t).table in
    both_less (λ u. writes (resends now u.legs) u) a (fine_outs u (resends now u.legs) (plain_resends now u.legs) a.good) (λ p h. h)

-- ---- 13 close

less_retireds : (ns : List ℕ) (s : List LinkRec) → Less s (retireds ns s)
unfolding retireds
less_retireds [] s p h = h
less_retireds (n ∷ ns) s p h = less_retireds ns (retired n s) p (less_retired n s p h)

idle_retirings : (ns : List ℕ) (s : List LinkRec) → Idle (retireds ns s) (retirings ns s)
unfolding retireds retirings
idle_retirings [] s = tt
idle_retirings (n ∷ ns) s =
    let u : List LinkRec = retireds ns (retired n s) in
    all_append (λ p. in_use p u ≡ false) (retiring n s) (retirings ns (retired n s))
    (all_map (λ p. in_use p (retired n s) ≡ false) (λ p. in_use p u ≡ false) (less_retireds ns (retired n s)) (retiring n s) (idle_retiring n s))
    (idle_retirings ns (retired n s))

-- every leg's record goes
retireds_gone : (gs : List Leg) (s : List LinkRec) → ((m : ℕ) → tally (λ g. one (on_link m g)) gs ≤ tally (λ r. one (numbered m r)) s)
    → (m : ℕ) → tally (λ r. one (numbered m r)) (retireds (map (λ g. g.link) gs) s) + tally (λ g. one (on_link m g)) gs ≡ tally (λ r. one (numbered m r)) s
unfolding retireds
retireds_gone [] s h m = omega arith
retireds_gone (g ∷ gs) s h m =
    let gone = records_retired g.link s (omega (arith, h g.link, ap one (eqb_same g.link))) in
    omega (arith, gone m, retireds_gone gs (retired g.link s) (λ i. omega (arith, gone i, h i)) m)

all_freed : (l : ℕ) (s : List Leg) → given l (map (λ g. Free g.lease) s) ≡ tally (λ g. one (eqb l g.lease)) s
all_freed l [] = refl
all_freed l (g ∷ s) = omega (arith, all_freed l s)

unused_freed : (u : List LinkRec) (s : List Leg) → Unused u (map (λ g. Free g.lease) s)
unused_freed u [] = tt
unused_freed u (g ∷ s) = (tt, unused_freed u s)

pub fine_close_legs : (t : Table) → Good t → Fine t nothing (close_legs t)
unfolding close_legs
fine_close_legs t k =
    let ns : List ℕ = map (λ g. g.link) t.legs in
    let ps : List Pair = retirings ns t.links in
    let u : List LinkRec = retireds ns t.links in
    let frees : List Output = map (λ g. Free g.lease) t.legs in
    let closed : List Output = if empty ps then [] else Output.Close ps ∷ [] in
    let gone = retireds_gone t.legs t.links (λ i. omega (arith, k.owned.one_owner i)) in
    let none_given : (l : ℕ) → given l closed ≡ 0 = λ l. if_by (λ (os : List Output). given l os ≡ 0) (empty ps) (λ z. refl) (λ z. refl) in
    record {
      good = good_less (λ m. tally (λ g. one (on_link m g)) t.legs) refl gone (λ m. omega arith) k;
      lease = λ l. omega (arith, all_freed l t.legs, tally_append (gives l) frees closed, none_given l);
      unused = all_append (λ o. Idle u (lists o)) frees closed (unused_freed u t.legs) (if_by (Unused u) (empty ps) (λ z. tt) (λ z. (idle_retirings ns t.links, tt)));
    }

less_remove : (now : ℕ) (p : Bytes) (why : Why) (t : Table) → Less t.links (remove now p why t).table.links
unfolding remove removed
less_remove now p why t = option_by (λ (s : Step). Less t.links s.table.links) (held_at p t) (λ e q h. h) (λ g e. less_retired g.link t.links)

less_removes : (now : ℕ) (ps : List Bytes) (t : Table) → Less t.links (removes now ps t).table.links
unfolding removes ◌▸◌
less_removes now [] t q h = h
less_removes now (p ∷ ps) t q h = less_removes now ps (remove now p Why.Closed t).table q (less_remove now p Why.Closed t q h)

fine_removes : (now : ℕ) (ps : List Bytes) (t : Table) → Good t → Fine t nothing (removes now ps t)
unfolding removes
fine_removes now [] t k = fine_still t k
fine_removes now (p ∷ ps) t k =
    let a = fine_remove now p Why.Closed t k in
    both_less (removes now ps) a (fine_removes now ps (remove now p Why.Closed t).table a.good) (less_removes now ps (remove now p Why.Closed t).table)

fine_close : (now : ℕ) (t : Table) → Good t → Fine t nothing (close now t)
unfolding close
fine_close now t k =
    let ps : List Bytes = map (λ h. h.peer) t.held in
    let a = fine_close_legs t k in
    both_less (removes now ps) a (fine_removes now ps (close_legs t).table a.good) (less_removes now ps (close_legs t).table)

-- ---- 14 path, 15 release

-- records changed, none in its number
fine_links : (t : Table) (test : LinkRec → Bool) (f : LinkRec → LinkRec) (os : List Output) → ((r : LinkRec) → (f r).no ≡ r.no) → ((l : ℕ) → given l os ≡ 0) → Unused (alter test f t.links) os → Good t
    → Fine t nothing (writes os (with_links (alter test f t.links) t))
fine_links t test f os a z q k = record {
  good = good_less nothing refl (λ m. omega (arith, tally_alter_same test (λ r. one (numbered m r)) f (λ r. ap (λ (i : ℕ). one (eqb m i)) (a r)) t.links)) (λ m. omega arith) k;
  lease = λ l. omega (arith, z l);
  unused = q;
}

fair_add_path : (n : ℕ) (p : Pair) (v : Proven) (t : Table) → Good t → Fair t nothing (add_path n p v t)
unfolding add_path path
fair_add_path n p v t k = if_by (Fair t nothing) (crowded n p t) (λ e. fine_still t k) (λ e. fine_links t (numbered n) (with_path p v) [] (λ r. refl) (λ l. refl) tt k)

or_right : (a b : Bool) → a || b ≡ false → b ≡ false
or_right true b e = cc
or_right false b e = e

idle_releasing : (n : ℕ) (p : Pair) (kept : Bool) (s : List LinkRec) → Idle (released n p s) (releasing n p kept s)
unfolding releasing
idle_releasing n p kept s =
    let skipped : Bool = not (any (numbered n) s) || kept in
    let used : Bool = in_use p (released n p s) in
    if_by (Idle (released n p s)) (skipped || used) (λ e. tt) (λ e. (or_right skipped used e, tt))

fine_release : (n : ℕ) (p : Pair) (kept : Bool) (t : Table) → Good t → Fine t nothing (release n p kept t)
unfolding release released
fine_release n p kept t k = fine_links t (numbered n) (without_path p) _ (λ r. refl) (λ l. refl) (idle_releasing n p kept t.links, tt) k

-- ---- every call

fair_step : (now : ℕ) (c : Call) (t : Table) → Good t → Fair t (λ l. is_lease l (lease_of c)) (step now c t)
unfolding step
fair_step now (Call.Dial p to m l) t k = fair_numbering t _ _ k (fair_entering p t (ok (dial now p to m l t)) _ k (fine_dial now p to m l t k))
fair_step now (Call.Abandon n) t k = fine_abandon n t k
fair_step now (Call.Arrived p b) t k = fine_arrived p b t k
fair_step now (Call.Msg1 x f) t k = fair_numbering t _ _ k (fair_msg1 now x f t k)
fair_step now (Call.Replacement x) t k = fair_numbering t _ _ k (fair_admit now Source.Replacement x t k)
fair_step now (Call.Sent n) t k = fine_sent now n t k
fair_step now (Call.Unsent n) t k = fine_unsent n t k
fair_step now (Call.Msg2 n e p) t k = fine_msg2 now n e p t k
fair_step now (Call.Restarted p e) t k = fine_restarted p e t k
fair_step now (Call.Heard p f) t k = fine_heard now p f t k
fair_step now (Call.Remove p w) t k = fine_remove now p w t k
fair_step now Call.Poll t k = fine_poll now t k
fair_step now Call.Close t k = fine_close now t k
fair_step now (Call.Path n p v) t k = fair_add_path n p v t k
fair_step now (Call.Release n p f) t k = fine_release n p f t k
fair_step now Call.Wake t k = fine_says t _ (λ l. refl, refl) k

-- a record: refusals 2 and 3, then the call
pub fair_call : (x : Fed) (t : Table) → Good t → Fair t (λ l. is_lease l (lease_in x)) (Claim.answer x t)
unfolding call
fair_call x t k = if_by P (ltb x.buffer 10_240) (λ e. fine_still t k) (λ e. read (read_call x.bytes))
  where
    P : Result → Type 0
    P = Fair t (λ l. is_lease l (lease_in x))

    read : (o : Option Timed) → Fair t (λ l. is_lease l (option o None λ c. lease_of c.call)) (option o (refuse 3 t) λ c. step c.now c.call t)
    read None = fine_still t k
    read (Some c) = fair_step c.now c.call t k
