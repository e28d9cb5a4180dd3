-- A held peer that restarted, or that was heard: each way of the step.
use Rattle.std.specs.Prelude.{◌≡◌, Bool, true, false, List, [], ◌∷◌, ℕ, ◌+◌, ◌≤◌, length, set, if◌then◌else◌, None, Some}
use Rattle.std.proofs.Common.{sym, subst, arith}
use Rattle.rules.specs.Base.{Bytes}
use Rattle.rules.specs.Std.{Ascending}
use Rattle.rules.specs.Data.{Pair, same_pair, Table, Transition, Output, Reset, Roam}
use Rattle.rules.specs.Output.{output_record}
use Rattle.rules.specs.Gates.{memory, store, clear, earlier_memory}
use Rattle.rules.specs.Settle.{with_held, with_gates, writes, still, named, with_epoch, restarted, heard_from, heard}
use Rattle.lib_laws.specs.Scan.{scan}
use Rattle.lib_laws.specs.Place.{find_at, find_nowhere, alter_at}
use Rattle.lib_laws.specs.Splice.{Wrote}
use Rattle.output_record.specs.Write.{puts_one}
use Rattle.held.specs.View.{no_held}
use Rattle.table_layout.specs.View.{view_table, FitTable, Told, nth_held}
use Rattle.table_layout.proofs.Told.{told_then}
use Rattle.call_contract.specs.Did.{Space, Did, space_is, did_is, space_head, puts_end, did_still}

-- room for a Reset of a peer's address
reset_room : {o : Bytes} {at : ℕ} {s : List Output} (p : Bytes) (k : Transition) → length p ≡ 16 → Space o at (Reset p k ∷ s) → at + 21 ≤ length o
reset_room p k e a = omega (arith, e, space_head (Reset p k) a)

-- ---- restarted
module _ (p : Bytes) (epoch : ℕ) (x : Table) where
  restarted_none : scan (named p) 0 x.held ≡ None → restarted p epoch x ≡ still x
  unfolding restarted
  restarted_none e = rw (find_nowhere (named p) x.held e)

  restarted_some : {i : ℕ} → scan (named p) 0 x.held ≡ Some i
      → restarted p epoch x ≡ writes (Reset p Transition.Restarted ∷ []) (with_held (set x.held i (with_epoch epoch (nth_held x i))) x)
  unfolding restarted
  restarted_some {i} e = rw (find_at (named p) x.held i e no_held, alter_at (named p) x.held i e (with_epoch epoch) no_held)

  pub restarted_room : {o : Bytes} {at i : ℕ} → Space o at (restarted p epoch x).outs → length p ≡ 16 → scan (named p) 0 x.held ≡ Some i → at + 21 ≤ length o
  restarted_room a l e = reset_room p Transition.Restarted l (space_is a (restarted_some e))

  pub restarted_did : {t o : Bytes} {at n : ℕ} {o' : Bytes} {r i : ℕ} → scan (named p) 0 x.held ≡ Some i
      → Told t (with_held (set x.held i (with_epoch epoch (nth_held x i))) x) → Wrote o at n (output_record (Reset p Transition.Restarted)) o' r
      → Did o at t o' r (restarted p epoch x)
  restarted_did e t w = did_is (record { table = t; puts = puts_one (Reset p Transition.Restarted) w }) (sym (restarted_some e))

pub restarted_still : {t o : Bytes} {at : ℕ} (p : Bytes) (epoch : ℕ) → FitTable t → Space o at (restarted p epoch (view_table t)).outs
    → scan (named p) 0 (view_table t).held ≡ None → Did o at t o at (restarted p epoch (view_table t))
restarted_still {t} p epoch f a e = let q = restarted_none p epoch (view_table t) e in did_is (did_still f (space_is a q)) (sym q)

-- ---- heard
-- its failures are forgotten
abbrev cleared : Bytes → Table → Table
cleared p y = with_gates (store (clear (memory p y.gates)) y.gates) y

module _ (now : ℕ) (p : Bytes) (from : Pair) (x : Table) where
  abbrev met : ℕ → Table
  met i = with_held (set x.held i (heard_from now from (nth_held x i))) x

  heard_none : scan (named p) 0 x.held ≡ None → heard now p from x ≡ still x
  unfolding heard
  heard_none e = rw (find_nowhere (named p) x.held e)

  heard_some : {i : ℕ} {b : Bool} → scan (named p) 0 x.held ≡ Some i → b ≡ same_pair from (nth_held x i).current
      → heard now p from x ≡ writes (if b then [] else Reset p Roam ∷ []) (cleared p (met i))
  unfolding heard
  heard_some {i} e v = rw (find_at (named p) x.held i e no_held, v, alter_at (named p) x.held i e (heard_from now from) no_held)

  module _ {i : ℕ} where
    stays : {b : Bool} → scan (named p) 0 x.held ≡ Some i → b ≡ same_pair from (nth_held x i).current → b ≡ true → heard now p from x ≡ writes [] (cleared p (met i))
    stays e v w = rw w at (heard_some e v)

    roams : {b : Bool} → scan (named p) 0 x.held ≡ Some i → b ≡ same_pair from (nth_held x i).current → b ≡ false → heard now p from x ≡ writes (Reset p Roam ∷ []) (cleared p (met i))
    roams e v w = rw w at (heard_some e v)

    pub stays_did : {o : Bytes} {at : ℕ} {t₁ t₂ : Bytes} {b : Bool} → Space o at (heard now p from x).outs
        → scan (named p) 0 x.held ≡ Some i → b ≡ same_pair from (nth_held x i).current → b ≡ true
        → Told t₁ (met i) → Told t₂ (cleared p (view_table t₁)) → Did o at t₂ o at (heard now p from x)
    stays_did a e v w t u =
        let q = stays e v w in
        did_is (record { table = told_then (cleared p) t u; puts = puts_end (space_is a q) }) (sym q)

    pub roams_room : {o : Bytes} {at : ℕ} {b : Bool} → Space o at (heard now p from x).outs → length p ≡ 16
        → scan (named p) 0 x.held ≡ Some i → b ≡ same_pair from (nth_held x i).current → b ≡ false → at + 21 ≤ length o
    roams_room a l e v w = reset_room p Roam l (space_is a (roams e v w))

    pub roams_did : {o : Bytes} {at n : ℕ} {t₁ t₂ o' : Bytes} {r : ℕ} {b : Bool} → scan (named p) 0 x.held ≡ Some i → b ≡ same_pair from (nth_held x i).current → b ≡ false
        → Told t₁ (met i) → Told t₂ (cleared p (view_table t₁)) → Wrote o at n (output_record (Reset p Roam)) o' r → Did o at t₂ o' r (heard now p from x)
    roams_did e v w t u k = did_is (record { table = told_then (cleared p) t u; puts = puts_one (Reset p Roam) k }) (sym (roams e v w))

pub heard_still : {t o : Bytes} {at : ℕ} (now : ℕ) (p : Bytes) (from : Pair) → FitTable t → Space o at (heard now p from (view_table t)).outs
    → scan (named p) 0 (view_table t).held ≡ None → Did o at t o at (heard now p from (view_table t))
heard_still {t} now p from f a e = let q = heard_none now p from (view_table t) e in did_is (did_still f (space_is a q)) (sym q)

-- the memories of a table, by its name
pub gates_stay : {t : Bytes} {y : Table} → Told t y → Ascending earlier_memory y.gates → Ascending earlier_memory (view_table t).gates
gates_stay a g = subst (λ (y : Table). Ascending earlier_memory y.gates) (sym a.shows) g
