-- A heard holder stamped; a holder that goes and leaves room for an answer.
use Rattle.std.specs.Prelude.{◌≡◌, Bool, true, false, List, ℕ, ◌+◌, ◌<◌, length, get_or, Some}
use Rattle.std.proofs.Common.{sym, ◌∙◌}
use Rattle.std.proofs.Math.Path.{ap}
use native.Mathlib.Omega.{arith}
use Rattle.rules.specs.Base.{Bytes}
use Rattle.rules.specs.Data.{Held, Table, Why}
use Rattle.rules.specs.Gates.{memory, store, stamped}
use Rattle.rules.specs.Settle.{with_gates, named, held_at, removed, stamp}
use Rattle.rules.specs.Bounds.{Word}
use Rattle.rules.proofs.Lists.{find_test}
use Rattle.rules.proofs.Peers.{same_sound}
use Rattle.rules.proofs.Order.{length_less}
use Rattle.held.specs.View.{no_held}
use Rattle.table_layout.specs.View.{view_table, Told, nth_held}
use Rattle.call_contract.specs.Did.{Did}
use Rattle.call_contract.specs.Sound.{Sound, Ready, ready_told, sound_stamp, sound_removed, owners, links_most}

-- ---- the stamp
module _ (x : Table) (p : Bytes) (h : Held) (now : ℕ) {b : Bool} (v : b ≡ h.heard) where
  pub stamp_heard : {t : Bytes} → held_at p x ≡ Some h → b ≡ true → Told t (with_gates (store (stamped now (memory p x.gates)) x.gates) x) → Told t (stamp now h x)
  unfolding stamp
  stamp_heard {t} e q a =
      let s : p ≡ h.peer = same_sound p h.peer (find_test (named p) x.held h e) in
      rw (sym v ∙ q) (rw s at a)

  pub stamp_unheard : {t : Bytes} → b ≡ false → Told t x → Told t (stamp now h x)
  unfolding stamp
  stamp_unheard q a = rw (sym v ∙ q) a

-- ---- the i-th holder, which is the peer's, is passed over
module _ (x : Table) (s : Sound x) (now : ℕ) (w : Word now) (p : Bytes) (i : ℕ) (l : i < length x.held) (e : held_at p x ≡ Some (nth_held x i)) where
  abbrev h : Held
  h = nth_held x i

  abbrev y : Table
  y = stamp now h x

  module _ {t : Bytes} (a : Told t y) where
    pub stamped_ready : Ready t
    stamped_ready = ready_told a (sound_stamp x s now p h w e)

    held_same : (view_table t).held ≡ x.held
    unfolding stamp
    held_same = ap (λ (z : Table). z.held) a.shows

    pub stamped_within : i < length (view_table t).held
    stamped_within = rw held_same l

    pub stamped_at : held_at p (view_table t) ≡ Some (nth_held (view_table t) i)
    stamped_at = rw held_same e

    pub stamped_removed : {why k : Why} → why ≡ k → removed now p why (nth_held (view_table t) i) (view_table t) ≡ removed now p k h y
    stamped_removed {why} {k} q =
        ap (λ (g : List Held). removed now p why (get_or g i no_held) (view_table t)) held_same
        ∙ ap (λ (z : Table). removed now p why h z) a.shows
        ∙ ap (λ (k : Why). removed now p k h y) q

  -- it is gone, and an answer finds room
  module _ (why : Why) {o : Bytes} {at : ℕ} {t o₁ : Bytes} {r : ℕ} (d : Did o at t o₁ r (removed now p why h y)) where
    gone : Table
    gone = (removed now p why h y).table

    gone_sound : Sound gone
    unfolding stamp gone
    gone_sound = sound_removed y (sound_stamp x s now p h w e) now p why h w e

    gone_links : (length gone.links < 32) × (length gone.legs < 32)
    unfolding stamp removed gone
    gone_links =
        let m = owners gone_sound in
        let n = owners s in
        let k = links_most s in
        let j = length_less (named p) x.held h e in
        (omega arith, omega arith)

    pub gone_room : (length (view_table t).links < 32) × (length (view_table t).legs < 32)
    unfolding gone
    gone_room = rw d.table.shows gone_links

    pub gone_next : {n : ℕ} → x.next + 1 < n → (view_table t).next + 1 < n
    unfolding stamp removed
    gone_next q = rw d.table.shows q
