-- A memory found, stored and cleared among memories in the order of their peers.
use Rattle.std.specs.Prelude.{◌≡◌, Bool, not, ◌&&◌, ℕ, zero, suc, ◌≤◌, ◌<◌, eqb, ltb, length, get_or, if◌then◌else◌, None, Option, Some}
use Rattle.std.proofs.Math.Path.{refl, sym, ap}
use Rattle.std.proofs.Common.{◌∙◌, subst, arith, eqb-true, eq-eqb, ne_eqb, ltb-true, le-ltb}
use Rattle.std.proofs.Math.Bool.{true, false}
use mathlib.Core.List.{List, [], ◌∷◌}
use Rattle.std.proofs.lemmas.Bool.{eqb-false}
use Rattle.std.proofs.Math.ListN.{set}
use Rattle.rules.specs.Base.{is, empty, Bytes, All, without}
use Rattle.rules.specs.Std.{before, Ascending}
use Rattle.rules.specs.Std as std
use Rattle.rules.specs.Data.{Replay, Silence, Memory}
use Rattle.rules.specs.Bounds.{IfAny, SilenceFits, MemoryFits}
use Rattle.rules.specs.Gates.{blank, remembers, memory_of, earlier_memory, memory, store, clear, promoted, ended}
use Rattle.rules.specs.Time.{Params}
use Rattle.lib_laws.specs.Shift.{erase, all_at}
use Rattle.lib_laws.specs.Scan.{scan}
use Rattle.lib_laws.specs.Beside.{same_true}
use Rattle.lib_laws.specs.Place.{First, here, there, first_of, place_passes, place_within, find_at, find_nowhere, without_at, without_nowhere}
use Rattle.gates_types.specs.View.{Within}

-- the order of peers has one direction
before_not : (a b : Bytes) → before a b ≡ true → before b a ≡ false
before_not [] [] e = refl
before_not [] (y ∷ b) e = refl
before_not (x ∷ a) [] e = cc
before_not (x ∷ a) (y ∷ b) e = go (eqb x y) refl e (before_not a b)
  where
    go : (k : Bool) → eqb x y ≡ k → (if k then before a b else ltb x y) ≡ true → (before a b ≡ true → before b a ≡ false) → (if eqb y x then before b a else ltb y x) ≡ false
    go true q e r = rw (eq-eqb y x (sym (eqb-true x y q))) (r e)
    go false q e r = let h = ltb-true x y e in let n = eqb-false x y q in rw (ne_eqb y x (λ p. n (sym p)), le-ltb y x (omega arith))

-- ---- in the place of the first with its peer
module _ (m : Memory) where
  abbrev t : Memory → Bool
  t k = memory_of m.peer k

  first_place : {i : ℕ} {g : List Memory} → First t i g → (x : Memory) → All (λ y. earlier_memory x y ≡ true) g → before x.peer m.peer ≡ true
  first_place (here {x = y} e) x a = rw (same_true m.peer y.peer e) a.0
  first_place (there e f) x a = first_place f x a.1

  put_front : (x : Memory) (g : List Memory) → m.peer ≡ x.peer → All (λ y. earlier_memory x y ≡ true) g → std.insert earlier_memory m g ≡ m ∷ g
  unfolding std.insert
  put_front x [] e a = refl
  put_front x (y ∷ g) e a = rw (e, a.0)

  put_place : {i : ℕ} {g : List Memory} → First t i g → Ascending earlier_memory g → std.insert earlier_memory m (without t g) ≡ set g i m
  unfolding std.insert
  put_place (here {x = x} {s} e) a = rw e (put_front x s (same_true m.peer x.peer e) a.0)
  put_place (there {x = x} {s} {i} e f) a =
      rw (e, before_not x.peer m.peer (first_place f x a.0)) (ap (λ (u : List Memory). x ∷ u) (put_place f a.1))

  pub stored_at : {p : Bytes} (g : List Memory) (i : ℕ) → m.peer ≡ p → Ascending earlier_memory g → scan (memory_of p) 0 g ≡ Some i
      → (if remembers m then set g i m else erase i g) ≡ store m g
  unfolding store
  stored_at g i z a e = go (remembers m) (rw (← z) at e)
    where
      go : (b : Bool) → scan t 0 g ≡ Some i → (if b then set g i m else erase i g) ≡ (if b then std.insert earlier_memory m (without t g) else without t g)
      go true e = sym (put_place (first_of t g i e) a)
      go false e = sym (without_at t g i e)

  pub stored_new : {p : Bytes} (g : List Memory) → m.peer ≡ p → scan (memory_of p) 0 g ≡ None → (if remembers m then std.insert earlier_memory m g else g) ≡ store m g
  unfolding store
  stored_new g z e = ap (λ (r : List Memory). if remembers m then std.insert earlier_memory m r else r) (sym (without_nowhere t g (rw (← z) at e)))

-- ---- the memory of a peer
module _ (p : Bytes) (g : List Memory) where
  pub memory_at : (i : ℕ) (d : Memory) → scan (memory_of p) 0 g ≡ Some i → get_or g i d ≡ memory p g
  unfolding memory
  memory_at i d e = sym (rw (find_at (memory_of p) g i e d))

  pub memory_none : scan (memory_of p) 0 g ≡ None → blank p ≡ memory p g
  unfolding memory
  memory_none e = sym (rw (find_nowhere (memory_of p) g e))

  pub memory_peer : (memory p g).peer ≡ p
  memory_peer = go (scan (memory_of p) 0 g) refl
    where
      go : (o : Option ℕ) → scan (memory_of p) 0 g ≡ o → (memory p g).peer ≡ p
      go None e = ap (λ (m : Memory). m.peer) (sym (memory_none e))
      go (Some i) e =
          ap (λ (m : Memory). m.peer) (sym (memory_at i (blank p) e)) ∙ sym (same_true p (get_or g i (blank p)).peer (place_passes (memory_of p) g i e (blank p)))

-- a memory that remembers nothing is nowhere
pub store_blank : (p : Bytes) (g : List Memory) → scan (memory_of p) 0 g ≡ None → g ≡ store (clear (memory p g)) g
unfolding clear
store_blank p g e = stored_new (clear (blank p)) g refl e ∙ ap (λ (m : Memory). store (clear m) g) (memory_none p g e)

-- ---- a memory with a stamp and nothing else: cleared, it is as it was
abbrev pub still : Memory → Bool
still m = is m.stamp && empty m.replays && not (is m.silence)

set_same : {A : Type 0} (g : List A) (i : ℕ) (d : A) → set g i (get_or g i d) ≡ g
set_same [] i d = refl
set_same (x ∷ g) zero d = refl
set_same {A} (x ∷ g) (suc i) d = ap (λ (u : List A). x ∷ u) (set_same g i d)

pub kept_still : (g : List Memory) (i : ℕ) (d : Memory) → still (get_or g i d) ≡ true
    → g ≡ (if remembers (clear (get_or g i d)) then set g i (clear (get_or g i d)) else erase i g)
unfolding clear
kept_still g i d e = go (get_or g i d) refl (get_or g i d).stamp (get_or g i d).replays (get_or g i d).silence refl refl refl e
  where
    go : (m : Memory) → m ≡ get_or g i d → (s : Option ℕ) (r : List Replay) (x : Option Silence) → m.stamp ≡ s → m.replays ≡ r → m.silence ≡ x → is s && empty r && not (is x) ≡ true
        → g ≡ (if remembers (clear m) then set g i (clear m) else erase i g)
    go m q (Some s) [] None a b c e =
        let z : clear m ≡ m = rw (← b, ← c) in
        let y : remembers (clear m) ≡ true = rw a in
        sym (ap (λ (x : Memory). set g i x) (z ∙ q) ∙ set_same g i d) ∙ ap (λ (k : Bool). if k then set g i (clear m) else erase i g) (sym y)
    go m q None r x a b c e = cc
    go m q (Some s) (y ∷ r) x a b c e = cc
    go m q (Some s) [] (Some x) a b c e = cc

pub clear_peer : (m : Memory) → (clear m).peer ≡ m.peer
unfolding clear
clear_peer m = refl

-- a memory that was found, cleared
pub heard_found : (p : Bytes) (g : List Memory) (i : ℕ) (d : Memory) → Ascending earlier_memory g → scan (memory_of p) 0 g ≡ Some i
    → (if remembers (clear (get_or g i d)) then set g i (clear (get_or g i d)) else erase i g) ≡ store (clear (memory p g)) g
heard_found p g i d a e =
    ap (λ (m : Memory). if remembers (clear m) then set g i (clear m) else erase i g) (memory_at p g i d e)
    ∙ stored_at (clear (memory p g)) g i (clear_peer (memory p g) ∙ memory_peer p g) a e

-- ---- room for one more, where the peer has none
pub record Room (p : Bytes) (g : List Memory) (n : ℕ) : Type 0 where
  pub room : scan (memory_of p) 0 g ≡ None → n < 32

-- the same, for a memory that remembers something
pub record RoomFor (m : Memory) (g : List Memory) (n : ℕ) : Type 0 where
  pub room : scan (memory_of m.peer) 0 g ≡ None → remembers m ≡ true → n < 32

pub room_for : {p : Bytes} {g : List Memory} {n : ℕ} (m k : Memory) → m ≡ k → k.peer ≡ p → Room p g n → RoomFor m g n
room_for m k q e r = let z : m.peer ≡ _ = ap (λ (x : Memory). x.peer) q ∙ e in record { room = λ y x. r.room (rw z at y) }

-- ---- what a change keeps of the peer
pub promoted_peer : (c : Params) (now : ℕ) (e : Bytes) (m : Memory) → (promoted c now e m).peer ≡ m.peer
unfolding promoted
promoted_peer c now e m = refl

pub ended_peer : (c : Params) (now : ℕ) (e : Option ℕ) (d : Option Bytes) (m : Memory) → (ended c now e d m).peer ≡ m.peer
unfolding ended
ended_peer c now e d m = refl

-- what holds of each memory holds of a peer's
pub within_memory : (c : Params) (p : Bytes) (g : List Memory) → All (Within c) g → Within c (memory p g)
within_memory c p g a = go (scan (memory_of p) 0 g) refl
  where
    go : (o : Option ℕ) → scan (memory_of p) 0 g ≡ o → Within c (memory p g)
    go None e = subst (Within c) (memory_none p g e) tt
    go (Some i) e = subst (Within c) (memory_at p g i (blank p) e) (all_at (Within c) g i (blank p) a (place_within (memory_of p) g i e))

-- every table that new or a call left has it so
pub fits_within : (c : Params) (g : List Memory) → All (MemoryFits c) g → All (Within c) g
fits_within c [] a = tt
fits_within c (m ∷ g) a = (go m.silence a.0.silence, fits_within c g a.1)
  where
    go : (s : Option Silence) → IfAny (SilenceFits c) s → IfAny (λ (s : Silence). length s.counted ≤ c.counted) s
    go None f = tt
    go (Some s) f = f.limit
