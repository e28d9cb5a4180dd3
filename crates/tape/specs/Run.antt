-- A tape in a lent slice: what `run` promises. Its loop: proofs/Turns.
use Rattle.std.specs.Prelude.{◌≡◌, Bool, ℕ, ◌+◌, ◌-◌, ◌≤◌, length, drop}
use Rattle.std.proofs.Common.{ap, arith, length-append}
use mathlib.Core.List.{List, ◌++◌}
use Rattle.rules.specs.Base.{Bytes, empty}
use Rattle.settle.specs.Contract.{Left}
use Rattle.tape.specs.Session.{State, Before}
use Rattle.tape.specs.Cut.{records_of}
use Rattle.tape.specs.Within.{within}
use Rattle.tape.specs.Step.{state_of}
use Rattle.tape.specs.declared.session.Phase.{Phase}
use Rattle.tape.specs.declared.session.Phase.TheVariants as phase

-- the session of a tape in a buffer as long as o
abbrev pub ran_in : Bytes → Bytes → Bytes × List Bytes × State
ran_in s o = within (length o) (records_of s) Before

-- run, lent the tape s, the table t and the buffer o, left t' and o' and answered the phase q, the length n and whether the tape was run whole
pub record Runs (s t o t' o' : Bytes) (q : Phase) (n : ℕ) (all : Bool) : Type 0 where
  -- what is written stands at the front, and the bytes beyond are kept
  pub bytes : o' ≡ (ran_in s o).0 ++ drop n o
  pub size : n ≡ length (ran_in s o).0
  -- whether no record was left
  pub whole : all ≡ empty (ran_in s o).1
  pub state : state_of q t' ≡ (ran_in s o).2
  -- the table is one for the next call; where there is none, its bytes are as they were
  pub left : q ≡ phase.Running → Left t'
  pub kept : (q ≡ phase.Running → ⊥) → t' ≡ t

-- what is written lies in the buffer
pub run_fits : {s t o t' o' : Bytes} {q : Phase} {n : ℕ} {all : Bool} → Runs s t o t' o' q n all → n ≤ length o'
run_fits {s} {o = o} {n = n} a = omega (arith, ap length a.bytes, length-append (ran_in s o).0 (drop n o), a.size)
