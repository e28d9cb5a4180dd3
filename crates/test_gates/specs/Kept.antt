-- What holds of the region between calls, with the chosen settings.
use Rattle.std.specs.Prelude.{◌≡◌, refl, false, ◌||◌, ℕ, ◌-◌, ◌≤◌, ◌<◌, eqb, length, replicate, None, Option, Some}
use Rattle.std.proofs.Common.{sym, ap, subst, arith}
use mathlib.Core.List.{List, [], ◌∷◌, ◌++◌, tail}
use Rattle.std.proofs.lemmas.Bool.{eqb-false}
use Rattle.rules.specs.Base.{option, Bytes, same, without, any, All}
use Rattle.rules.specs.Std.{Ascending}
use Rattle.rules.specs.Time.{Params}
use Rattle.rules.specs.Data.{Memory, Silence}
use Rattle.rules.specs.Bounds.{IfAny}
use Rattle.rules.specs.Gates.{memory_of, earlier_memory, memory, store, stamped, clear, promoted, expired, differ, counting, counted_with, silenced, ended}
use Rattle.rules.proofs.Lists.{if_by, eqb_sound}
use Rattle.rules.proofs.Order.{all_without, all_insert, length_snoc, ascending_without, key_gone, key_insert, store_by}
use Rattle.params.specs.View.{view_params}
use Rattle.params.specs.declared.Params as params
use Rattle.gates_types.specs.View.{FitParams, Within}
use Rattle.gates.specs.View.{view_gates, FitGates}
use Rattle.gates.specs.Order.{Room, within_memory}
use Rattle.gates.specs.Same.{fit_new, shows_none}
use Rattle.test_script.specs.Chosen.{chosen}
use Rattle.gates_entry.specs.Layout.{gates_len}

pub fit_chosen : {c : params.Params} → view_params c ≡ chosen → FitParams c
fit_chosen {c} e =
    let r : c.replays ≡ 2 = ap (λ (p : Params). p.replays) e in
    let n : c.counted ≡ 2 = ap (λ (p : Params). p.counted) e in
    record { replays = omega arith; some_counted = omega arith; counted = omega arith }

-- what the calls require of the region
pub record Kept (s : Bytes) : Type 0 where
  pub fit : FitGates s
  pub order : Ascending earlier_memory (view_gates s)
  pub within : All (Within chosen) (view_gates s)

pub kept_new : Kept (replicate gates_len 0)
kept_new = record { fit = fit_new; order = subst (Ascending earlier_memory) (sym shows_none) tt; within = subst (All (Within chosen)) (sym shows_none) tt }

pub within_chosen : {s : Bytes} {c : Params} → Kept s → c ≡ chosen → All (Within c) (view_gates s)
within_chosen {s} k z = subst (λ (c : Params). All (Within c) (view_gates s)) (sym z) k.within

-- ---- a memory stored

store_ordered : (m : Memory) (g : List Memory) → Ascending earlier_memory g → Ascending earlier_memory (store m g)
store_ordered m g h =
    let rest = ascending_without earlier_memory (memory_of m.peer) g h in
    store_by (Ascending earlier_memory) m g (λ e. key_insert (λ k. k.peer) m (without (memory_of m.peer) g) (key_gone (λ k. k.peer) m.peer g h) rest) rest

store_within : (c : Params) (m : Memory) (g : List Memory) → Within c m → All (Within c) g → All (Within c) (store m g)
store_within c m g x k =
    let rest = all_without (Within c) (memory_of m.peer) g k in
    store_by (All (Within c)) m g (λ e. all_insert earlier_memory (Within c) m (without (memory_of m.peer) g) x rest) rest

-- ---- the counted digests stay within the settings

length_tail : {A : Type 0} (s : List A) → length (tail s) ≡ length s - 1
length_tail [] = refl
length_tail (a ∷ s) = omega arith

abbrev Few : Silence → Type 0
Few s = length s.counted ≤ 2

counting_few : (now : ℕ) (e : Option ℕ) (s : Option Silence) → IfAny Few s → Few (counting chosen now e s)
unfolding counting
counting_few now e None x = omega arith
counting_few now e (Some r) x = if_by Few (expired chosen now r || differ r.epoch e) (λ z. omega arith) (λ z. x)

counted_few : (o : Option Bytes) (s : List Bytes) → length s ≤ 2 → length (counted_with chosen o s) ≤ 2
unfolding counted_with
counted_few None s h = h
counted_few (Some e) s h = if_by (λ (u : List Bytes). length (u ++ (e ∷ [])) ≤ 2) (eqb (length s) 2)
    (λ z. omega (arith, length_snoc (tail s) e, length_tail s, eqb_sound (length s) 2 z))
    (λ z. omega (arith, length_snoc s e, eqb-false (length s) 2 z))

silenced_few : (now : ℕ) (o : Option Bytes) (s : Silence) → Few s → Few (silenced chosen now o s)
unfolding silenced
silenced_few now o s x = counted_few o s.counted x

ended_within : (now : ℕ) (e : Option ℕ) (o : Option Bytes) (m : Memory) → Within chosen m → Within chosen (ended chosen now e o m)
unfolding ended
ended_within now e o m x =
    let r : Silence = counting chosen now e m.silence in
    let f : Few r = counting_few now e m.silence x in
    if_by Few (option o false (λ d. any (same d) r.counted)) (λ z. f) (λ z. silenced_few now o r f)

promoted_within : (now : ℕ) (e : Bytes) (m : Memory) → Within chosen m → Within chosen (promoted chosen now e m)
unfolding promoted
promoted_within now e m x = x

clear_within : (m : Memory) → Within chosen (clear m)
unfolding clear
clear_within m = tt

-- ---- each call keeps it

stored : {s t : Bytes} (m : Memory) → Kept s → Within chosen m → FitGates t → view_gates t ≡ store m (view_gates s) → Kept t
stored {s} m k x f e = record {
  fit = f;
  order = subst (Ascending earlier_memory) (sym e) (store_ordered m (view_gates s) k.order);
  within = subst (All (Within chosen)) (sym e) (store_within chosen m (view_gates s) x k.within);
}

module _ {s t : Bytes} (k : Kept s) (p : Bytes) (f : FitGates t) where
  abbrev before_it : Memory
  before_it = memory p (view_gates s)

  pub kept_promoted : {c : Params} (now : ℕ) (d : Bytes) → c ≡ chosen → view_gates t ≡ store (promoted c now d before_it) (view_gates s) → Kept t
  kept_promoted now d z e = stored (promoted chosen now d before_it) k (promoted_within now d before_it (within_memory chosen p (view_gates s) k.within)) f (rw z at e)

  pub kept_ended : {c : Params} (now : ℕ) (e : Option ℕ) (o : Option Bytes) → c ≡ chosen → view_gates t ≡ store (ended c now e o before_it) (view_gates s) → Kept t
  kept_ended now e o z q = stored (ended chosen now e o before_it) k (ended_within now e o before_it (within_memory chosen p (view_gates s) k.within)) f (rw z at q)

  pub kept_stamped : (now : ℕ) → view_gates t ≡ store (stamped now before_it) (view_gates s) → Kept t
  kept_stamped now e = stored (stamped now before_it) k (within_memory chosen p (view_gates s) k.within) f e

  pub kept_heard : view_gates t ≡ store (clear before_it) (view_gates s) → Kept t
  kept_heard e = stored (clear before_it) k (clear_within before_it) f e

-- room where there are fewer than 32
pub room_below : {p : Bytes} {g : List Memory} {n : ℕ} → n < 32 → Room p g n
room_below h = record { room = λ e. h }
