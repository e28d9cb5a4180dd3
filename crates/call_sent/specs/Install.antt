-- A leg becomes a holder: what the table shows then, and the outputs that say so.
use Rattle.std.specs.Prelude.{◌≡◌, ℕ, ◌+◌, ◌≤◌, ◌<◌, length, set, None, Some}
use Rattle.std.proofs.Common.{sym, ap, subst, arith}
use mathlib.Core.List.{List, ◌∷◌}
use Rattle.rules.specs.Base.{Bytes}
use Rattle.rules.specs.Std.{insert}
use Rattle.rules.specs.Data.{APeer, Leg, Held, Table, Transition, Installed, Output, Install, Reset}
use Rattle.rules.specs.Links.{hold}
use Rattle.rules.specs.Legs.{on_link, mark_unsent}
use Rattle.rules.specs.Settle.{with_links, with_legs, with_held, drop_leg, earlier_held, unsent}
use Rattle.lib_laws.specs.Scan.{scan}
use Rattle.lib_laws.specs.Place.{alter_at, alter_nowhere}
use Rattle.legs.specs.View.{no_leg}
use Rattle.table_layout.specs.View.{view_table, FitTable, Told, nth_leg}
use Rattle.table_layout.proofs.Told.{told_same, told_is, told_then}
use Rattle.call_contract.specs.Did.{Space, space_head}

-- ---- room for each output
pub install_fits : {o : Bytes} {at : ℕ} {s : List Output} (i : Installed) {len : ℕ} → Space o at (Install i ∷ s) → length i.peer ≡ 16 → length i.pair.addr ≡ len → at + (39 + len) ≤ length o
install_fits i a h k = omega (arith, space_head (Install i) a)

pub reset_fits : {o : Bytes} {at : ℕ} {s : List Output} (p : Bytes) (how : Transition) → Space o at (Reset p how ∷ s) → length p ≡ 16 → at + 21 ≤ length o
reset_fits p how a h = omega (arith, space_head (Reset p how) a)

-- ---- the holder h in place of the leg on its link: `installs g h` for a leg g on it
abbrev pub seated : Held → Table → Table
seated h x = with_held (insert earlier_held h x.held) (with_links (hold h.link (APeer h.peer) x.links) (drop_leg h.link x))

module _ (t : Bytes) (h : Held) {a b : Bytes} (d : Told a (drop_leg h.link (view_table t))) (l : Told b (with_links (hold h.link (APeer h.peer) (view_table a).links) (view_table a))) where
  -- the leg gone, the link the peer's
  readied : Told b (with_links (hold h.link (APeer h.peer) (view_table t).links) (drop_leg h.link (view_table t)))
  readied = told_then (λ (s : Table). with_links (hold h.link (APeer h.peer) s.links) s) d l

  pub told_seated : {u : Bytes} → Told u (with_held (insert earlier_held h (view_table b).held) (view_table b)) → Told u (seated h (view_table t))
  told_seated c = told_then (λ (s : Table). with_held (insert earlier_held h s.held) s) readied c

  -- room for the holder is left
  pub held_left : length (view_table t).held < 32 → length (view_table b).held < 32
  held_left r = subst (λ (s : Table). length s.held < 32) (sym readied.shows) r

-- ---- an answer that could not be sent
module _ (t : Bytes) (n : ℕ) where
  pub unsent_at : {u : Bytes} (i : ℕ) → scan (on_link n) 0 (view_table t).legs ≡ Some i → Told u (with_legs (set (view_table t).legs i (mark_unsent (nth_leg (view_table t) i))) (view_table t))
      → Told u (unsent n (view_table t)).table
  unfolding unsent
  unsent_at i e a = told_is a (ap (λ (s : List Leg). with_legs s (view_table t)) (sym (alter_at (on_link n) (view_table t).legs i e mark_unsent no_leg)))

  pub unsent_none : scan (on_link n) 0 (view_table t).legs ≡ None → FitTable t → Told t (unsent n (view_table t)).table
  unfolding unsent
  unsent_none e f = told_is (told_same f) (ap (λ (s : List Leg). with_legs s (view_table t)) (sym (alter_nowhere (on_link n) (view_table t).legs e mark_unsent)))
