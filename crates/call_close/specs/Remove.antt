-- Every held peer removed: the first of them, and what is left then.
use Rattle.std.specs.Prelude.{◌≡◌, true, ℕ, ◌+◌, ◌≤◌, ◌<◌, drop, Option, Some}
use Rattle.std.proofs.Common.{sym, ◌∙◌, arith, drop-cons, drop_of_length-le}
use Rattle.std.proofs.Math.Path.{ap}
use mathlib.Core.List.{List, ◌∷◌, map}
use Rattle.std.proofs.Math.ListN.{length}
use Rattle.rules.specs.Base.{Bytes, find, without, option}
use Rattle.rules.specs.Data.{Held, Table, Step, Why}
use Rattle.rules.specs.Settle.{still, ◌▸◌, named, held_at, removed, remove, removes, close_legs, close}
use Rattle.rules.specs.Bounds.{Word}
use Rattle.rules.proofs.Peers.{same_refl}
use Rattle.rules.proofs.Order.{length_less}
use Rattle.held.specs.View.{no_held}
use Rattle.table_layout.specs.View.{view_table, nth_held}
use Rattle.call_contract.specs.Did.{Space, Did, space_is, did_is, space_left, space_right, did_then}
use Rattle.call_contract.specs.Sound.{Sound, Ready, ready_told, sound_removed, sound_legs}
use Rattle.call_contract.specs.Loop.{Doing, doing_space, doing_turn, doing_end}

module _ (clock : ℕ) (x : Table) where
  -- the peers that are held, one after another
  abbrev pub empties : Step
  empties = removes clock (map (λ h. h.peer) x.held) x

  pub empties_none : length x.held ≤ 0 → empties ≡ still x
  unfolding removes
  empties_none q = rw (drop_of_length-le x.held {i = 0} q)

  module _ (q : 0 < length x.held) {p : Bytes} (e : p ≡ (nth_held x 0).peer) where
    held_cons : x.held ≡ nth_held x 0 ∷ drop 1 x.held
    held_cons = drop-cons x.held 0 no_held q

    is_first : named p (nth_held x 0) ≡ true
    is_first = rw e (same_refl (nth_held x 0).peer)

    pub first_held : held_at p x ≡ Some (nth_held x 0)
    first_held = ap (find (named p)) held_cons ∙ rw is_first

    others_held : without (named p) x.held ≡ drop 1 x.held
    others_held = ap (without (named p)) held_cons ∙ rw is_first

    pub empties_first : empties ≡ removed clock p Why.Closed (nth_held x 0) x ▸ (λ u. removes clock (map (λ h. h.peer) u.held) u)
    unfolding removes remove ◌▸◌ removed
    empties_first =
        ap (λ (s : List Held). removes clock (map (λ h. h.peer) s) x) held_cons
        ∙ ap (λ (b : Bytes). remove clock b Why.Closed x ▸ removes clock (map (λ h. h.peer) (drop 1 x.held))) (sym e)
        ∙ ap (λ (o : Option Held). option o (still x) (λ h. removed clock p Why.Closed h x) ▸ removes clock (map (λ h. h.peer) (drop 1 x.held))) first_held
        ∙ ap (λ (s : List Held). removed clock p Why.Closed (nth_held x 0) x ▸ removes clock (map (λ h. h.peer) s)) (sym others_held)

-- ---- the loop: i of n peers are removed
pub record Emptying (clock : ℕ) (xs : Bytes) (at : ℕ) (whole : Step) (t ys : Bytes) (e n i : ℕ) : Type 0 where
  pub count : n ≡ i + length (view_table t).held
  pub doing : Doing xs at whole t ys e (empties clock (view_table t))

module _ {clock : ℕ} {xs : Bytes} {at : ℕ} {whole : Step} {t ys : Bytes} {e n i : ℕ} (a : Emptying clock xs at whole t ys e n i) where
  pub empty_end : n ≤ i → Did xs at t ys e whole
  empty_end q = doing_end a.doing (empties_none clock (view_table t) (omega (arith, a.count)))

  module _ (q : i < n) where
    pub empty_some : 0 < length (view_table t).held
    empty_some = omega (arith, a.count)

    module _ {p : Bytes} (z : p ≡ (nth_held (view_table t) 0).peer) where
      pub empty_at : held_at p (view_table t) ≡ Some (nth_held (view_table t) 0)
      empty_at = first_held clock (view_table t) empty_some z

      rest_then : empties clock (view_table t) ≡ removed clock p Why.Closed (nth_held (view_table t) 0) (view_table t) ▸ (λ u. empties clock u)
      rest_then = empties_first clock (view_table t) empty_some z

      pub empty_space : Space ys e (removed clock p Why.Closed (nth_held (view_table t) 0) (view_table t)).outs
      empty_space = doing_space a.doing (removed clock p Why.Closed (nth_held (view_table t) 0) (view_table t)) (λ u. empties clock u) rest_then

      module _ {t' zs : Bytes} {k : ℕ} (d : Did ys e t' zs k (removed clock p Why.Closed (nth_held (view_table t) 0) (view_table t))) where
        fewer : length (view_table t').held + 1 ≡ length (view_table t).held
        unfolding removed
        fewer = ap (λ (u : Table). length u.held + 1) d.table.shows ∙ length_less (named p) (view_table t).held (nth_held (view_table t) 0) empty_at

        pub empty_turn : Word clock → Emptying clock xs at whole t' zs k n (i + 1)
        empty_turn w = record {
          count = omega (arith, a.count, fewer);
          doing = doing_turn a.doing (removed clock p Why.Closed (nth_held (view_table t) 0) (view_table t)) (λ u. empties clock u) rest_then
              (sound_removed (view_table t) a.doing.ready.sound clock p Why.Closed (nth_held (view_table t) 0) w empty_at) d;
        }

-- ---- legs, then peers
pub close_ready : {xs : Bytes} {at : ℕ} {x : Table} {t ys : Bytes} {e : ℕ} → Did xs at t ys e (close_legs x) → Sound x → Ready t
close_ready {x = x} d s = ready_told d.table (sound_legs x s)

module _ {xs : Bytes} {at : ℕ} (clock : ℕ) (x : Table) where
  pub close_first : Space xs at (close clock x).outs → Space xs at (close_legs x).outs
  unfolding close
  close_first a = space_left (close_legs x) (removes clock (map (λ h. h.peer) x.held)) a

  module _ {t ys : Bytes} {e : ℕ} (d : Did xs at t ys e (close_legs x)) where
    -- the peers are those before
    still_held : (view_table t).held ≡ x.held
    unfolding close_legs
    still_held = ap (λ (u : Table). u.held) d.table.shows

    same_rest : removes clock (map (λ h. h.peer) x.held) (view_table t) ≡ empties clock (view_table t)
    same_rest = ap (λ (s : List Held). removes clock (map (λ h. h.peer) s) (view_table t)) (sym still_held)

    pub close_rest : Space xs at (close clock x).outs → Space ys e (empties clock (view_table t)).outs
    unfolding close
    close_rest a = space_is (space_right (close_legs x) (removes clock (map (λ h. h.peer) x.held)) a d) same_rest

    pub close_did : {t' zs : Bytes} {r : ℕ} → Did ys e t' zs r (empties clock (view_table t)) → Did xs at t' zs r (close clock x)
    unfolding close
    close_did b = did_then (close_legs x) (removes clock (map (λ h. h.peer) x.held)) d (did_is b (sym same_rest))
