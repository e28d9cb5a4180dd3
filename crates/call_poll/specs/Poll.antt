-- The legs that poll reaps, and what it repeats: the first of them, and what is left then.
use Rattle.std.specs.Prelude.{◌≡◌, Bool, eqb, ltb, take, drop, get_or, if◌then◌else◌, None, Some}
use Rattle.std.proofs.Math.Path.{refl, ap, subst}
use Rattle.std.proofs.Common.{◌∙◌, ltb-true, ne_eqb, drop-drop, get_or-drop, length-drop, take_all}
use Rattle.std.proofs.Math.Bool.{true, false}
use mathlib.Core.List.{List, [], ◌∷◌, map}
use Prim.Native.Nat.{ℕ, suc, ◌+◌, ◌-◌, ◌≤◌, ◌<◌}
use native.Mathlib.Omega.{arith}
use Rattle.std.proofs.Math.ListN.{length}
use Rattle.rules.specs.Base.{Bytes, find, without, keep, All}
use Rattle.rules.specs.Std.{Ascending}
use Rattle.rules.specs.Data.{Leg, Table, Step, Resend}
use Rattle.rules.specs.Legs.{on_link, overdue, resends}
use Rattle.rules.specs.Output.{output_record}
use Rattle.rules.specs.Settle.{writes, still, ◌▸◌, leg_at, ends, abandon, abandons, poll}
use Rattle.rules.specs.Bounds.{earlier_leg}
use Rattle.rules.proofs.Lists.{eqb_same}
use Rattle.rules.proofs.Order.{contra, length_less}
use Rattle.lib_laws.specs.Shift.{all_at}
use Rattle.lib_laws.specs.Splice.{Wrote}
use Rattle.lib_laws.specs.Scan.{scan}
use Rattle.lib_laws.specs.Place.{First, here, there, first_of, none_of, place_within}
use Rattle.legs.specs.At.{resend_due, past_deadline}
use Rattle.legs.specs.View.{no_leg}
use Rattle.output_record.specs.Write.{Puts}
use Rattle.table_layout.specs.View.{view_table, nth_leg}
use Rattle.table_layout.proofs.Told.{told_same}
use Rattle.call_contract.specs.Did.{Space, Did, space_left, space_right, did_then}
use Rattle.call_contract.specs.Sound.{sound_ends}
use Rattle.call_contract.specs.Loop.{Writing, writing_start, writing_room, writing_one, writing_end, Doing, doing_space, doing_turn, doing_end}

-- ---- what passes a test, by the first that does
module _ {A : Type 0} (t : A → Bool) where
  first_kept : {i : ℕ} {s : List A} (d : A) → First t i s → keep t s ≡ get_or s i d ∷ keep t (drop (suc i) s)
  first_kept d (here e) = rw e
  first_kept d (there e f) = rw e (first_kept d f)

  kept_none : (s : List A) → All (λ a. t a ≡ false) s → keep t s ≡ []
  kept_none [] a = refl
  kept_none (x ∷ s) a = rw a.0 (kept_none s a.1)

  -- found where the count begins at k
  first_from : (k : ℕ) (s : List A) (i : ℕ) → scan t k s ≡ Some i → (k ≤ i) × First t (i - k) s
  unfolding scan
  first_from k [] i e = contra cc
  first_from k (x ∷ s) i e = go (t x) refl e (first_from (suc k) s i)
    where
      go : (b : Bool) → t x ≡ b → (if b then Some k else scan t (suc k) s) ≡ Some i → (scan t (suc k) s ≡ Some i → (suc k ≤ i) × First t (i - suc k) s)
          → (k ≤ i) × First t (i - k) (x ∷ s)
      go true q e r =
          let y : k ≡ i = cc in
          let z : 0 ≡ i - k = omega arith in
          (omega arith, subst (λ (j : ℕ). First t j (x ∷ s)) z (here q))
      go false q e r =
          let l = r e in
          let y : suc k ≤ i = l.0 in
          let z : suc (i - suc k) ≡ i - k = omega arith in
          (omega arith, subst (λ (j : ℕ). First t j (x ∷ s)) z (there q l.1))

  none_from : (k : ℕ) (s : List A) → scan t k s ≡ None → All (λ a. t a ≡ false) s
  unfolding scan
  none_from k [] e = tt
  none_from k (x ∷ s) e = go (t x) refl e (none_from (suc k) s)
    where
      go : (b : Bool) → t x ≡ b → (if b then Some k else scan t (suc k) s) ≡ None → (scan t (suc k) s ≡ None → All (λ a. t a ≡ false) s) → All (λ a. t a ≡ false) (x ∷ s)
      go true q e r = contra cc
      go false q e r = (q, r e)

  within_first : {i : ℕ} {s : List A} → First t i s → i < length s
  within_first (here e) = omega arith
  within_first (there e f) = let h = within_first f in omega arith

  -- what passes from a place on, by the first of these
  pub kept_from : (k : ℕ) (s : List A) (i : ℕ) (d : A) → scan t k (drop k s) ≡ Some i → (k ≤ i) × (i < length s) × (keep t (drop k s) ≡ get_or s i d ∷ keep t (drop (i + 1) s))
  kept_from k s i d e =
      let f = first_from k (drop k s) i e in
      let l : k ≤ i = f.0 in
      let w : i - k < length (drop k s) = within_first f.1 in
      let z : k + (i - k) ≡ i = omega arith in
      let y : k + suc (i - k) ≡ i + 1 = omega arith in
      (l, omega (arith, w, length-drop k s), first_kept d f.1 ∙ rw (get_or-drop, drop-drop, z, y))

-- ---- resends: the loop stands at leg `from`, and those before have been looked at
pub record Resending (xs : Bytes) (at clock : ℕ) (s : List Leg) (ys : Bytes) (e from : ℕ) : Type 0 where
  pub within : from ≤ length s
  pub writing : Writing xs at (resends clock s) ys e (resends clock (drop from s))

pub resending_start : {xs : Bytes} {at clock : ℕ} {s : List Leg} → Space xs at (resends clock s) → Resending xs at clock s xs at 0
resending_start {clock = clock} {s} a = record { within = omega arith; writing = writing_start (resends clock s) a }

module _ {xs : Bytes} {at clock : ℕ} {s : List Leg} {ys : Bytes} {e from : ℕ} (a : Resending xs at clock s ys e from) where
  -- the next that is due
  module _ {i : ℕ} (q : scan (resend_due clock) from (drop from s) ≡ Some i) where
    pub resend_later : from ≤ i
    resend_later = (kept_from (resend_due clock) from s i no_leg q).0

    pub resend_within : i < length s
    resend_within = (kept_from (resend_due clock) from s i no_leg q).1

    resend_next : resends clock (drop from s) ≡ Resend (get_or s i no_leg).link (get_or s i no_leg).msg1 ∷ resends clock (drop (i + 1) s)
    unfolding resends
    resend_next = ap (map (λ g. Resend g.link g.msg1)) (kept_from (resend_due clock) from s i no_leg q).2

    module _ {m : Bytes} (z : m ≡ (get_or s i no_leg).msg1) where
      pub resend_room : e + (14 + length m) ≤ length ys
      resend_room = rw (← z) at (writing_room a.writing (Resend (get_or s i no_leg).link (get_or s i no_leg).msg1) (resends clock (drop (i + 1) s)) resend_next)

      pub resend_turn : {l j : ℕ} {zs : Bytes} {r : ℕ} → l ≡ (get_or s i no_leg).link → Wrote ys e j (output_record (Resend l m)) zs r → Resending xs at clock s zs r (i + 1)
      resend_turn {l} {j} {zs} {r} p w = record {
        within = omega (arith, resend_within);
        writing = writing_one a.writing (Resend (get_or s i no_leg).link (get_or s i no_leg).msg1) (resends clock (drop (i + 1) s)) resend_next (rw (p, z) at w);
      }

  pub resend_end : scan (resend_due clock) from (drop from s) ≡ None → Puts xs at (resends clock s) ys e
  unfolding resends
  resend_end q = writing_end a.writing (ap (map (λ g. Resend g.link g.msg1)) (kept_none (resend_due clock) (drop from s) (none_from (resend_due clock) from (drop from s) q)))

-- ---- reaping
module _ (clock : ℕ) (d : Leg) where
  -- a leg before the first that is past has another link
  reaped : {i : ℕ} {s : List Leg} → Ascending earlier_leg s → First (past_deadline clock) i s
      → (find (on_link (get_or s i d).link) s ≡ Some (get_or s i d)) × (keep (past_deadline clock) s ≡ get_or s i d ∷ keep (past_deadline clock) (without (on_link (get_or s i d).link) s))
  reaped {s = []} a f = elim f [ ]
  reaped {s = g ∷ s} a (here e) = (rw (eqb_same g.link), rw (e, eqb_same g.link))
  reaped {s = h ∷ s} a (there {i = i} e f) =
      let k : Leg = get_or s i d in
      let l : ltb h.link k.link ≡ true = all_at (λ b. ltb h.link b.link ≡ true) s i d a.0 (within_first (past_deadline clock) f) in
      let q : eqb k.link h.link ≡ false = ne_eqb k.link h.link (λ z. omega (arith, ltb-true h.link k.link l, z)) in
      let r = reaped a.1 f in
      (rw q r.0, rw (q, e) r.1)

module _ (clock : ℕ) (x : Table) where
  abbrev pub reaps : Step
  reaps = abandons (overdue clock x.legs) x

  pub reaps_none : scan (past_deadline clock) 0 x.legs ≡ None → reaps ≡ still x
  unfolding overdue abandons
  reaps_none e = rw (kept_none (past_deadline clock) x.legs (none_of (past_deadline clock) x.legs e))

  module _ {i : ℕ} (o : Ascending earlier_leg x.legs) (e : scan (past_deadline clock) 0 x.legs ≡ Some i) where
    pub reaped_leg : leg_at (nth_leg x i).link x ≡ Some (nth_leg x i)
    reaped_leg = (reaped clock no_leg o (first_of (past_deadline clock) x.legs i e)).0

    pub reaps_first : reaps ≡ ends (nth_leg x i) x ▸ (λ u. abandons (overdue clock u.legs) u)
    unfolding overdue abandons abandon ends ◌▸◌
    reaps_first = rw ((reaped clock no_leg o (first_of (past_deadline clock) x.legs i e)).1, reaped_leg)

-- ---- the loop that reaps
module _ (clock : ℕ) {xs : Bytes} {at : ℕ} {whole : Step} {t ys : Bytes} {e : ℕ} (a : Doing xs at whole t ys e (reaps clock (view_table t))) where
  pub reap_end : scan (past_deadline clock) 0 (view_table t).legs ≡ None → Did xs at t ys e whole
  reap_end q = doing_end a (reaps_none clock (view_table t) q)

  module _ {i : ℕ} (q : scan (past_deadline clock) 0 (view_table t).legs ≡ Some i) where
    found_leg : leg_at (nth_leg (view_table t) i).link (view_table t) ≡ Some (nth_leg (view_table t) i)
    found_leg = reaped_leg clock (view_table t) a.ready.sound.shaped.ordered.legs q

    rest_then : reaps clock (view_table t) ≡ ends (nth_leg (view_table t) i) (view_table t) ▸ (λ u. reaps clock u)
    rest_then = reaps_first clock (view_table t) a.ready.sound.shaped.ordered.legs q

    pub reap_within : i < length (view_table t).legs
    reap_within = place_within (past_deadline clock) (view_table t).legs i q

    pub reap_space : Space ys e (ends (nth_leg (view_table t) i) (view_table t)).outs
    reap_space = doing_space a (ends (nth_leg (view_table t) i) (view_table t)) (λ u. reaps clock u) rest_then

    module _ {t' zs : Bytes} {k : ℕ} (d : Did ys e t' zs k (ends (nth_leg (view_table t) i) (view_table t))) where
      pub reap_turn : Doing xs at whole t' zs k (reaps clock (view_table t'))
      reap_turn = doing_turn a (ends (nth_leg (view_table t) i) (view_table t)) (λ u. reaps clock u) rest_then (sound_ends (view_table t) a.ready.sound (nth_leg (view_table t) i) found_leg) d

      pub reap_less : length (view_table t').legs < length (view_table t).legs
      unfolding ends
      reap_less =
          omega (arith, ap (λ (u : Table). length u.legs) d.table.shows, length_less (on_link (nth_leg (view_table t) i).link) (view_table t).legs (nth_leg (view_table t) i) found_leg)

-- ---- reaped, then repeated
abbrev repeats : ℕ → Table → Step
repeats clock u = writes (resends clock u.legs) u

module _ {xs : Bytes} {at : ℕ} (clock : ℕ) (x : Table) where
  pub poll_first : Space xs at (poll clock x).outs → Space xs at (reaps clock x).outs
  unfolding poll
  poll_first a = space_left (reaps clock x) (repeats clock) a

  pub poll_rest : {t ys : Bytes} {e : ℕ} → Space xs at (poll clock x).outs → Did xs at t ys e (reaps clock x) → Space ys e (resends clock (view_table t).legs)
  unfolding poll
  poll_rest a d = space_right (reaps clock x) (repeats clock) a d

  pub poll_did : {t ys : Bytes} {e : ℕ} {zs : Bytes} {r : ℕ} → Did xs at t ys e (reaps clock x) → Puts ys e (resends clock (view_table t).legs) zs r → Did xs at t zs r (poll clock x)
  unfolding poll
  poll_did d p = did_then (reaps clock x) (repeats clock) d (record { table = told_same d.table.fit; puts = p })
