-- A record's holder says Leg exactly if a leg has its link.
use Rattle.std.specs.Prelude.{Some}
use mathlib.Core.Path.{◌≡◌, refl, ap}
use mathlib.Core.Bool.{Bool, true, false, ◌&&◌, and-true, and-false}
use mathlib.Core.List.{List, [], ◌∷◌, map}
use Prim.Native.Nat.{ℕ, ◌+◌, ◌≤◌}
use native.Mathlib.Omega.{arith}
use lib.Dec.{eqb}
use Rattle.rules.specs.Base.{Bytes, find, without, alter, tally, one}
use Rattle.rules.specs.Time.{Params}
use Rattle.rules.specs.Data.{Pair, Dir, APeer, LinkRec, Answered, Leg, Held, Table, Why, Transition, Step}
use Rattle.rules.specs.Links.{numbered, is_leg, opened, held_by, hold, path, with_path, retired, without_path, released}
use Rattle.rules.specs.Legs.{on_link, dial_leg, answer_leg, resent, mark_sent, mark_unsent}
use Rattle.rules.specs.Settle.{with_links, with_legs, joined, leg_at, held_at, dial, ends, removed, answer, stamp, promote, dialed, moveto, restarted, heard, retireds, close_legs}
use Rattle.rules.specs.Record.{Timed}
use Rattle.rules.specs.Entry.{Made, new_table, new, call}
use Rattle.rules.specs.Claim.{Fed, play}
use Rattle.rules.specs.Bounds.{Holders}
use Rattle.rules.proofs.Lists.{option_by, eqb_sound, eqb_same, tally_append, find_test, tally_without, tally_alter, tally_alter_same, tally_found}
use Rattle.rules.proofs.Good.{Good, records_hold, records_retired, legs_less, leg_record, held_less, held_record}
use Rattle.rules.proofs.Demand.{made, good_made}
use Rattle.rules.proofs.Walk.{Closed, walk, walks}

-- counted if it has the number and a leg holds it
abbrev legged : ℕ → LinkRec → ℕ
legged n r = one (numbered n r && is_leg r.holder)

abbrev leggeds : ℕ → List LinkRec → ℕ
leggeds n s = tally (legged n) s

tally_le : {A : Type 0} (f g : A → ℕ) → ((a : A) → f a ≤ g a) → (s : List A) → tally f s ≤ tally g s
tally_le f g h [] = omega arith
tally_le f g h (a ∷ s) = omega (arith, h a, tally_le f g h s)

and_le : (a b : Bool) → one (a && b) ≤ one a
and_le true true = omega arith
and_le true false = omega arith
and_le false b = omega arith

-- a leg's records are records
leggeds_le : (n : ℕ) (s : List LinkRec) → leggeds n s ≤ tally (λ r. one (numbered n r)) s
leggeds_le n s = tally_le (legged n) (λ r. one (numbered n r)) (λ r. and_le (numbered n r) (is_leg r.holder)) s

-- ---- the first record of a number

module _ (n : ℕ) (s : List LinkRec) (r : LinkRec) (e : find (numbered n) s ≡ Some r) where
  no_is : n ≡ r.no
  no_is = eqb_sound n r.no (find_test (numbered n) s r e)

  legged_leg : is_leg r.holder ≡ true → (m : ℕ) → legged m r ≡ one (eqb m n)
  legged_leg f m = rw (f, no_is, and-true (eqb m r.no))

  legged_peer : is_leg r.holder ≡ false → (m : ℕ) → legged m r ≡ 0
  legged_peer f m = rw (f, and-false (eqb m r.no))

  -- with one record of n, it is a leg's if any is
  is_leg_lem : tally (λ k. one (numbered n k)) s ≤ 1 → 1 ≤ leggeds n s → is_leg r.holder ≡ true
  is_leg_lem a b = go (is_leg r.holder) refl
    where
      go : (x : Bool) → is_leg r.holder ≡ x → is_leg r.holder ≡ true
      go true f = f
      go false f = absurd (omega (
        arith,
        tally_without (numbered n) (legged n) s r e,
        tally_without (numbered n) (λ k. one (numbered n k)) s r e,
        leggeds_le n (without (numbered n) s),
        legged_peer f n,
        ap one (find_test (numbered n) s r e),
      ))

  not_leg : leggeds n s ≡ 0 → is_leg r.holder ≡ false
  not_leg a = go (is_leg r.holder) refl
    where
      go : (x : Bool) → is_leg r.holder ≡ x → is_leg r.holder ≡ false
      go true f = absurd (omega (arith, tally_without (numbered n) (legged n) s r e, legged_leg f n, ap one (eqb_same n)))
      go false f = f

  retired_leg : is_leg r.holder ≡ true → (m : ℕ) → leggeds m (retired n s) + one (eqb m n) ≡ leggeds m s
  retired_leg f m = omega (arith, tally_without (numbered n) (legged m) s r e, legged_leg f m)

  retired_peer : is_leg r.holder ≡ false → (m : ℕ) → leggeds m (retired n s) ≡ leggeds m s
  retired_peer f m = omega (arith, tally_without (numbered n) (legged m) s r e, legged_peer f m)

  held_leg : (p : Bytes) → is_leg r.holder ≡ true → (m : ℕ) → leggeds m (hold n (APeer p) s) + one (eqb m n) ≡ leggeds m s
  unfolding hold
  held_leg p f m = omega (arith, tally_alter (numbered n) (legged m) (held_by (APeer p)) s r e, legged_leg f m, ap one (and-false (numbered m r)))

-- ---- each kind of change

module _ (t : Table) (k : Good t) (a : Holders t) where
  -- a leg's record, and a holder's
  leg_found : (g : Leg) → leg_at g.link t ≡ Some g → (r : LinkRec) × (find (numbered g.link) t.links ≡ Some r) × (is_leg r.holder ≡ true)
  leg_found g e =
      let n : ℕ = g.link in
      let x = tally_found (numbered n) t.links (leg_record t n g e k) in
      (x.0, x.1, is_leg_lem n t.links x.0 x.1 (k.owned.one_record n) (omega (arith, a.by_leg n, legs_less t n g e n, ap one (eqb_same n))))

  -- no leg has a holder's link
  held_none : (p : Bytes) (h : Held) → held_at p t ≡ Some h → leggeds h.link t.links ≡ 0
  held_none p h e =
      let n : ℕ = h.link in
      omega (arith, a.by_leg n, k.owned.one_owner n, k.owned.one_record n, held_less t p h e n, ap one (eqb_same n))

  new_leg : (n : ℕ) (to : Pair) (d : Dir) (g : Leg) → g.link ≡ n → Holders (joined (opened n to d) g t)
  unfolding opened
  new_leg n to d g f = record { by_leg = λ m. simp (tally_append, f) (omega (arith, a.by_leg m, ap one (and-true (eqb m n)))) }

  leg_ends : (g : Leg) → leg_at g.link t ≡ Some g → Holders (ends g t).table
  unfolding ends
  leg_ends g e =
      let x = leg_found g e in
      record { by_leg = λ m. omega (arith, a.by_leg m, retired_leg g.link t.links x.0 x.1 x.2 m, legs_less t g.link g e m) }

  holder_goes : (now : ℕ) (p : Bytes) (why : Why) (h : Held) → held_at p t ≡ Some h → Holders (removed now p why h t).table
  unfolding removed
  holder_goes now p why h e =
      let x = tally_found (numbered h.link) t.links (held_record t p h e k) in
      let f = not_leg h.link t.links x.0 x.1 (held_none p h e) in
      record { by_leg = λ m. omega (arith, a.by_leg m, retired_peer h.link t.links x.0 x.1 f m) }

  -- the leg's record becomes its holder's
  leg_held : (g : Leg) (p : Bytes) → leg_at g.link t ≡ Some g → (m : ℕ) → leggeds m (hold g.link (APeer p) t.links) ≡ tally (λ j. one (on_link m j)) (without (on_link g.link) t.legs)
  leg_held g p e m =
      let x = leg_found g e in
      omega (arith, a.by_leg m, held_leg g.link t.links x.0 x.1 p x.2 m, legs_less t g.link g e m)

  leg_promoted : (now : ℕ) (p : Bytes) (b : Answered) (g : Leg) (r : LinkRec) → leg_at g.link t ≡ Some g → Holders (promote now p b g r t).table
  unfolding promote
  leg_promoted now p b g r e = record { by_leg = λ m. omega (arith, leg_held g p e m) }

  leg_dialed : (now : ℕ) (p : Bytes) (g : Leg) (epoch : ℕ) (from : Pair) (how : Transition) → leg_at g.link t ≡ Some g → Holders (dialed now p g epoch from how t).table
  unfolding dialed
  leg_dialed now p g epoch from how e = record { by_leg = λ m. omega (arith, leg_held g p e m) }

  holder_moves : (p : Bytes) (g : Leg) (h : Held) (from : Pair) → leg_at g.link t ≡ Some g → held_at p t ≡ Some h → Holders (moveto p g h from t).table
  unfolding moveto
  holder_moves p g h from e w =
      let s : List LinkRec = hold g.link (APeer p) t.links in
      let x = leg_found g e in
      let less = held_leg g.link t.links x.0 x.1 p x.2 in
      let y = tally_found (numbered h.link) s (rw (records_hold g.link (APeer p) t.links h.link) (held_record t p h w k)) in
      let f = not_leg h.link s y.0 y.1 (omega (arith, less h.link, held_none p h w)) in
      record { by_leg = λ m. omega (arith, leg_held g p e m, retired_peer h.link s y.0 y.1 f m) }

  legs_change : (n : ℕ) (f : Leg → Leg) → ((g : Leg) → (f g).link ≡ g.link) → Holders (with_legs (alter (on_link n) f t.legs) t)
  legs_change n f b = record {
    by_leg = λ m. omega (arith, a.by_leg m, tally_alter_same (on_link n) (λ g. one (on_link m g)) f (λ g. ap (λ (i : ℕ). one (eqb m i)) (b g)) t.legs);
  }

  links_change : (n : ℕ) (f : LinkRec → LinkRec) → ((m : ℕ) (r : LinkRec) → legged m (f r) ≡ legged m r) → Holders (with_links (alter (numbered n) f t.links) t)
  links_change n f b = record { by_leg = λ m. omega (arith, a.by_leg m, tally_alter_same (numbered n) (legged m) f (b m) t.links) }

  -- neither links nor legs change
  stamped : (now : ℕ) (h : Held) → Holders (stamp now h t)
  unfolding stamp
  stamped now h = record { by_leg = a.by_leg }

  epoch_changes : (p : Bytes) (epoch : ℕ) → Holders (restarted p epoch t).table
  unfolding restarted
  epoch_changes p epoch = option_by (λ (s : Step). Holders s.table) (held_at p t) (λ e. a) (λ h e. record { by_leg = a.by_leg })

  holder_heard : (now : ℕ) (p : Bytes) (from : Pair) → Holders (heard now p from t).table
  unfolding heard
  holder_heard now p from = option_by (λ (s : Step). Holders s.table) (held_at p t) (λ e. a) (λ h e. record { by_leg = a.by_leg })

-- every leg's record goes, and it was a leg's
leggeds_gone : (gs : List Leg) (s : List LinkRec) → ((m : ℕ) → tally (λ g. one (on_link m g)) gs ≤ leggeds m s) → ((m : ℕ) → tally (λ r. one (numbered m r)) s ≤ 1)
    → (m : ℕ) → leggeds m (retireds (map (λ g. g.link) gs) s) + tally (λ g. one (on_link m g)) gs ≡ leggeds m s
unfolding retireds
leggeds_gone [] s h b m = omega arith
leggeds_gone (g ∷ gs) s h b m =
    let n : ℕ = g.link in
    let le = leggeds_le n s in
    let here : 1 ≤ leggeds n s = omega (arith, h n, ap one (eqb_same n)) in
    let x = tally_found (numbered n) s (omega (arith, here, le)) in
    let gone = retired_leg n s x.0 x.1 (is_leg_lem n s x.0 x.1 (b n) here) in
    omega (arith, gone m, leggeds_gone gs (retired n s) (λ i. omega (arith, gone i, h i)) (λ i. omega (arith, records_retired n s (omega (arith, here, le)) i, b i)) m)

legs_end : (t : Table) → Good t → Holders t → Holders (close_legs t).table
unfolding close_legs
legs_end t k a = record { by_leg = λ m. omega (arith, a.by_leg m, leggeds_gone t.legs t.links (λ i. omega (arith, a.by_leg i)) k.owned.one_record m) }

-- ---- every call

holders_closed : (x : Timed) → Closed Holders x
unfolding dial dial_leg answer answer_leg resent path released
holders_closed x = record {
  dials = λ t p to m l q n r k a. new_leg t k a t.next to _ _ refl;
  answers = λ t y b w n r k a. new_leg t k a t.next y.from _ _ refl;
  stamps = λ t y h b w k a. stamped t k a x.now h;
  displaced = λ t y s h b w n k a ku au. new_leg _ ku au _ y.from _ _ refl;
  resends = λ t n k a. legs_change t k a n (resent t.params x.now) (λ g. refl);
  sents = λ t n k a. legs_change t k a n mark_sent (λ g. refl);
  unsents = λ t n k a. legs_change t k a n mark_unsent (λ g. refl);
  promotes = λ t p b g r e f d w v k a. leg_promoted t k a x.now p b g r e;
  completes = λ t p g epoch from d w k a. leg_dialed t k a x.now p g epoch from _ d.leg;
  replaces = λ t p g h epoch from d w k a e ku au. leg_dialed _ ku au x.now p g epoch from _ e;
  moves = λ t p g h epoch from d w k a. holder_moves t k a p g h from d.leg w;
  restarts = λ t p epoch q k a. epoch_changes t k a p epoch;
  hears = λ t p from q k a. holder_heard t k a x.now p from;
  paths = λ t n p v q e k a. links_change t k a n (with_path p v) (λ m r. refl);
  releases = λ t n p f q k a. links_change t k a n (without_path p) (λ m r. refl);
  leg_ends = λ t g e k a. leg_ends t k a g e;
  holder_goes = λ t p why h e k a. holder_goes t k a x.now p why h e;
  legs_end = legs_end;
}

holders_empty : (me : Bytes) (first : ℕ) (c : Params) → Holders (new_table me first c)
unfolding new_table
holders_empty me first c = record { by_leg = λ n. refl }

pub holders_new : (r : Bytes) (t : Table) → new r ≡ Made t → Holders t
holders_new r t e = made Holders r t e (λ b z q. holders_empty b.me b.first b.params)

pub holders_call : (s : Bytes) (buffer : ℕ) (t : Table) → Good t → Holders t → Holders (call s buffer t).step.table
holders_call = walk Holders (λ s x e. holders_closed x)

-- so after every list from an accepted record of new
pub holders : (r : Bytes) (t : Table) → new r ≡ Made t → (s : List Fed) → Holders (play s t).table
holders r t e s = walks Holders (λ b x w. holders_closed x) s t (good_made r t e) (holders_new r t e)
