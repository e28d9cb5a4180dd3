-- A msg2, by what its leg and the holder of its peer are.
use Rattle.std.specs.Prelude.{◌≡◌, Bool, true, false, ◌||◌, [], ◌∷◌, ℕ, ◌+◌, ◌≤◌, ◌<◌, eqb, if◌then◌else◌, None, Some}
use Rattle.std.proofs.Common.{sym, ◌∙◌, arith, eq-eqb, ne_eqb}
use Rattle.std.proofs.Math.Path.{ap, subst}
use Rattle.std.proofs.Math.ListN.{length}
use Rattle.rules.specs.Base.{Bytes}
use Rattle.rules.specs.Std.{before}
use Rattle.rules.specs.Data.{Pair, Leg, Held, Table, Why, Promote, Replace, Keep, Reset, Step}
use Rattle.rules.specs.Legs.{on_link, answered, answers}
use Rattle.rules.specs.Output.{output_record}
use Rattle.rules.specs.Settle.{writes, still, ◌▸◌, leg_at, named, held_at, ends, removed, own, dialed, moveto, msg2}
use Rattle.rules.proofs.Order.{length_less}
use Rattle.lib_laws.specs.Splice.{Wrote}
use Rattle.lib_laws.specs.Scan.{scan}
use Rattle.lib_laws.specs.Place.{find_at, find_nowhere}
use Rattle.legs.specs.View.{no_leg}
use Rattle.legs.specs.At.{there, absent, no_answer}
use Rattle.held.specs.View.{no_held}
use Rattle.output_record.specs.Write.{puts_one}
use Rattle.table_layout.specs.View.{view_table, FitTable, nth_leg, nth_held}
use Rattle.table_layout.proofs.Told.{told_same}
use Rattle.call_contract.specs.Did.{Space, Did, space_is, did_is, did_still, space_left, space_right, did_then}
use Rattle.call_contract.specs.Sound.{Sound, owners, links_most, held_room}
use Rattle.call_sent.specs.Install.{reset_fits}

-- ---- the leaves
-- the holder h goes, and its peer is installed anew
unfoldable pub replaced : ℕ → Bytes → Leg → Held → ℕ → Pair → Table → Step
replaced now p g h epoch from x = removed now p Why.OwnRestart h x ▸ dialed now p g epoch from Replace

-- the leg ends
unfoldable pub kept : Bytes → Leg → Table → Step
kept p g x = ends g x ▸ writes (Reset p Keep ∷ [])

-- whether the holder moves: this node dialed its link too, or its address comes before the peer's
abbrev pub moves : Bytes → Held → Table → Bool
moves p h x = own h x || before x.me p

unfoldable pub met : Bytes → Leg → Held → Pair → Table → Step
met p g h from x = if moves p h x then moveto p g h from x else kept p g x

-- ---- a holder of another epoch
-- it has gone: each leg stands at its place still, and there is room for a holder
module _ (now : ℕ) (p : Bytes) (h : Held) (t : Bytes) {o : Bytes} {at : ℕ} {t₁ o₁ : Bytes} {a : ℕ} (d : Did o at t₁ o₁ a (removed now p Why.OwnRestart h (view_table t))) where
  pub gone_leg : (i : ℕ) → i < length (view_table t).legs → i < length (view_table t₁).legs
  unfolding removed
  gone_leg i l = subst (λ (x : Table). i < length x.legs) (sym d.table.shows) l

  same_leg : (i : ℕ) → nth_leg (view_table t₁) i ≡ nth_leg (view_table t) i
  unfolding removed
  same_leg i = ap (λ (x : Table). nth_leg x i) d.table.shows

  pub gone_room : Sound (view_table t) → held_at p (view_table t) ≡ Some h → length (view_table t₁).held < 32
  unfolding removed
  gone_room s e =
      subst (λ (x : Table). length x.held < 32) (sym d.table.shows) (omega (arith, owners s, links_most s, length_less (named p) (view_table t).held h e))

module _ (now : ℕ) (p : Bytes) (h : Held) (epoch : ℕ) (from : Pair) (t : Bytes) (i : ℕ) where
  abbrev first : Step
  first = removed now p Why.OwnRestart h (view_table t)

  abbrev second : Leg → Table → Step
  second g = dialed now p g epoch from Replace

  module _ {o : Bytes} {at : ℕ} where
    pub replaced_removes : Space o at (replaced now p (nth_leg (view_table t) i) h epoch from (view_table t)).outs → Space o at first.outs
    unfolding replaced
    replaced_removes s = space_left first (second (nth_leg (view_table t) i)) s

    module _ {t₁ o₁ : Bytes} {a : ℕ} (d : Did o at t₁ o₁ a first) where
      pub replaced_dials : Space o at (replaced now p (nth_leg (view_table t) i) h epoch from (view_table t)).outs → Space o₁ a (second (nth_leg (view_table t₁) i) (view_table t₁)).outs
      unfolding replaced
      replaced_dials s = subst (λ (g : Leg). Space o₁ a (second g (view_table t₁)).outs) (sym (same_leg now p h t d i)) (space_right first (second (nth_leg (view_table t) i)) s d)

      pub replaced_did : {u o₂ : Bytes} {r : ℕ} → Did o₁ a u o₂ r (second (nth_leg (view_table t₁) i) (view_table t₁)) → Did o at u o₂ r (replaced now p (nth_leg (view_table t) i) h epoch from (view_table t))
      unfolding replaced
      replaced_did {u} {o₂} {r} b = did_then first (second (nth_leg (view_table t) i)) d (subst (λ (g : Leg). Did o₁ a u o₂ r (second g (view_table t₁))) (same_leg now p h t d i) b)

-- ---- the session stays
module _ (p : Bytes) (g : Leg) (x : Table) {o : Bytes} {at : ℕ} where
  pub kept_ends : Space o at (kept p g x).outs → Space o at (ends g x).outs
  unfolding kept
  kept_ends s = space_left (ends g x) (writes (Reset p Keep ∷ [])) s

  module _ {t₁ o₁ : Bytes} {a : ℕ} (d : Did o at t₁ o₁ a (ends g x)) where
    pub kept_resets : Space o at (kept p g x).outs → length p ≡ 16 → a + 21 ≤ length o₁
    unfolding kept
    kept_resets s l = reset_fits p Keep (space_right (ends g x) (writes (Reset p Keep ∷ [])) s d) l

    pub kept_did : {k : ℕ} {o₂ : Bytes} {r : ℕ} → Wrote o₁ a k (output_record (Reset p Keep)) o₂ r → Did o at t₁ o₂ r (kept p g x)
    unfolding kept
    kept_did w = did_then (ends g x) (writes (Reset p Keep ∷ [])) d (record { table = told_same d.table.fit; puts = puts_one (Reset p Keep) w })

-- ---- the holder moves, or the leg ends
module _ (p : Bytes) (g : Leg) (h : Held) (from : Pair) (x : Table) {a : Bool} (e : a ≡ moves p h x) where
  pub met_moves : a ≡ true → met p g h from x ≡ moveto p g h from x
  unfolding met
  met_moves q = ap (λ (b : Bool). if b then moveto p g h from x else kept p g x) (sym e ∙ q)

  pub met_stays : a ≡ false → met p g h from x ≡ kept p g x
  unfolding met
  met_stays q = ap (λ (b : Bool). if b then moveto p g h from x else kept p g x) (sym e ∙ q)

-- ---- what `msg2` is, by the leg on the link
module _ (now n epoch : ℕ) (from : Pair) (x : Table) where
  msg2_none : leg_at n x ≡ None → msg2 now n epoch from x ≡ still x
  unfolding msg2
  msg2_none e = rw e

  module _ (g : Leg) (e : leg_at n x ≡ Some g) where
    msg2_answer : answers g ≡ true → msg2 now n epoch from x ≡ still x
    unfolding msg2
    msg2_answer a = rw (e, there no_answer (answered g.kind) a)

    module _ (a : answers g ≡ false) where
      msg2_nameless : g.peer ≡ None → msg2 now n epoch from x ≡ still x
      unfolding msg2
      msg2_nameless f = rw (e, absent (answered g.kind) a, f)

      module _ (p : Bytes) (f : g.peer ≡ Some p) where
        msg2_new : held_at p x ≡ None → msg2 now n epoch from x ≡ dialed now p g epoch from Promote x
        unfolding msg2
        msg2_new q = rw (e, absent (answered g.kind) a, f, q)

        msg2_other : (h : Held) → held_at p x ≡ Some h → eqb h.epoch epoch ≡ false → msg2 now n epoch from x ≡ replaced now p g h epoch from x
        unfolding msg2 replaced
        msg2_other h q w = rw (e, absent (answered g.kind) a, f, q, w)

        msg2_same : (h : Held) → held_at p x ≡ Some h → eqb h.epoch epoch ≡ true → msg2 now n epoch from x ≡ met p g h from x
        unfolding msg2 met kept
        msg2_same h q w = rw (e, absent (answered g.kind) a, f, q, w)

-- ---- by the places found
-- a leg leaves room for a holder
pub msg2_room : (t : Bytes) (n i : ℕ) → Sound (view_table t) → scan (on_link n) 0 (view_table t).legs ≡ Some i → length (view_table t).held < 32
msg2_room t n i s e = held_room s n (nth_leg (view_table t) i) (find_at (on_link n) (view_table t).legs i e no_leg)

module _ (now n epoch : ℕ) (from : Pair) (t : Bytes) where
  module _ {o : Bytes} {at : ℕ} (s : Space o at (msg2 now n epoch from (view_table t)).outs) (d : FitTable t) where
    nothing : msg2 now n epoch from (view_table t) ≡ still (view_table t) → Did o at t o at (msg2 now n epoch from (view_table t))
    nothing q = did_is (did_still d (space_is s q)) (sym q)

    pub msg2_nowhere : scan (on_link n) 0 (view_table t).legs ≡ None → Did o at t o at (msg2 now n epoch from (view_table t))
    msg2_nowhere e = nothing (msg2_none now n epoch from (view_table t) (find_nowhere (on_link n) (view_table t).legs e))

    module _ (i : ℕ) (e : scan (on_link n) 0 (view_table t).legs ≡ Some i) where
      pub msg2_answers : answers (nth_leg (view_table t) i) ≡ true → Did o at t o at (msg2 now n epoch from (view_table t))
      msg2_answers a = nothing (msg2_answer now n epoch from (view_table t) (nth_leg (view_table t) i) (find_at (on_link n) (view_table t).legs i e no_leg) a)

      pub msg2_unnamed : answers (nth_leg (view_table t) i) ≡ false → (nth_leg (view_table t) i).peer ≡ None → Did o at t o at (msg2 now n epoch from (view_table t))
      msg2_unnamed a f = nothing (msg2_nameless now n epoch from (view_table t) (nth_leg (view_table t) i) (find_at (on_link n) (view_table t).legs i e no_leg) a f)

  module _ (i : ℕ) (e : scan (on_link n) 0 (view_table t).legs ≡ Some i) (a : answers (nth_leg (view_table t) i) ≡ false) {p : Bytes} (names : (nth_leg (view_table t) i).peer ≡ Some p) where
    abbrev g : Leg
    g = nth_leg (view_table t) i

    abbrev x : Table
    x = view_table t

    at_leg : leg_at n x ≡ Some g
    at_leg = find_at (on_link n) x.legs i e no_leg

    pub msg2_dials : scan (named p) 0 x.held ≡ None → msg2 now n epoch from x ≡ dialed now p g epoch from Promote x
    msg2_dials v = msg2_new now n epoch from x g at_leg a p names (find_nowhere (named p) x.held v)

    module _ (k : ℕ) (v : scan (named p) 0 x.held ≡ Some k) {b : ℕ} (w : b ≡ (nth_held x k).epoch) where
      pub msg2_replaces : (b ≡ epoch → ⊥) → msg2 now n epoch from x ≡ replaced now p g (nth_held x k) epoch from x
      msg2_replaces z = msg2_other now n epoch from x g at_leg a p names (nth_held x k) (find_at (named p) x.held k v no_held) (ap (λ (m : ℕ). eqb m epoch) (sym w) ∙ ne_eqb b epoch z)

      pub msg2_meets : b ≡ epoch → msg2 now n epoch from x ≡ met p g (nth_held x k) from x
      msg2_meets z = msg2_same now n epoch from x g at_leg a p names (nth_held x k) (find_at (named p) x.held k v no_held) (ap (λ (m : ℕ). eqb m epoch) (sym w) ∙ eq-eqb b epoch z)
