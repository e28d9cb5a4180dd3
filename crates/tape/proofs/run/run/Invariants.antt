-- `tape::run::run` meets its contract.
use Prim.Native.Nat.{◌-◌}
use lib.ListN.{length}
use Rattle.tape.proofs.Turns.{Going}
use Rattle.tape.proofs.run.run.Given as goal

abbrev pub invariant-loop-at : goal.invariant-loop-at
invariant-loop-at l = Going l.tape l.initial.table l.initial.out l.phase l.at l.len l.table l.out

abbrev pub decreases-loop-at : goal.decreases-loop-at
decreases-loop-at l = length l.tape - l.at
