-- What is remembered at the place that a search for a peer's memory answered.
use Rattle.std.specs.Prelude.{◌≡◌, List, [], ℕ, ◌<◌, length, get_or, None, Option, Some}
use Rattle.std.proofs.Math.Path.{refl}
use Rattle.std.proofs.Common.{sym, ap, ◌∙◌}
use Rattle.rules.specs.Base.{Bytes}
use Rattle.rules.specs.Time.{Params}
use Rattle.rules.specs.Data.{Held, Memory, Source}
use Rattle.rules.specs.Gates.{blank, memory_of, memory, silencing, silenced_for, replayed, dampened, judge, judged}
use Rattle.lib_laws.specs.Scan.{scan}
use Rattle.lib_laws.specs.Store.{entries_count}
use Rattle.lib_laws.specs.Place.{place_within}
use Rattle.gates_entry.specs.View.{entry_of, view_gates, FitGates, gate_count, no_memory}
use Rattle.gates.specs.Order.{memory_at, memory_none}

-- the memory there; where there is none, one that remembers nothing
abbrev pub memory_in : Option ℕ → List Memory → Memory
memory_in (Some i) g = get_or g i no_memory
memory_in None g = blank []

-- one of the memories, or none
abbrev pub PlaceIn : Option ℕ → List Memory → Type 0
PlaceIn (Some i) g = i < length g
PlaceIn None g = Unit {0}

pub at_place : {s : Bytes} {r : Option ℕ} {i : ℕ} → FitGates s → PlaceIn r (view_gates s) → r ≡ Some i → i < gate_count s
at_place {s} {r} {i} f a e =
    let b : i < length (view_gates s) = rw e at a in
    rw (entries_count entry_of f) at b

-- a search for the peer's memory answers such a place; what reads nothing of a memory's peer reads there what it reads of that memory
module _ (p : Bytes) (g : List Memory) where
  pub place_in : (r : Option ℕ) → r ≡ scan (memory_of p) 0 g → PlaceIn r g
  place_in (Some i) q = place_within (memory_of p) g i (sym q)
  place_in None q = tt

  read_in : {B : Type 0} (f : Memory → B) → f (blank []) ≡ f (blank p) → (r : Option ℕ) → r ≡ scan (memory_of p) 0 g → f (memory_in r g) ≡ f (memory p g)
  read_in f e (Some i) q = ap f (memory_at p g i no_memory (sym q))
  read_in f e None q = e ∙ ap f (memory_none p g (sym q))

  pub silenced_in : (r : Option ℕ) → r ≡ scan (memory_of p) 0 g → (now : ℕ) (s : Source) (e : Option ℕ) → silenced_for now s e (memory_in r g) ≡ silenced_for now s e (memory p g)
  unfolding silencing
  silenced_in r q now s e = read_in (λ m. silenced_for now s e m) refl r q

  pub judged_in : (r : Option ℕ) → r ≡ scan (memory_of p) 0 g → (c : Params) (now : ℕ) (s : Source) (o : Option Held) (d : Bytes) → judged c now s o d (memory_in r g) ≡ judged c now s o d (memory p g)
  unfolding judged judge replayed dampened
  judged_in r q c now s o d = read_in (λ m. judged c now s o d m) refl r q
