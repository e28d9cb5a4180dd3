-- The region is kept by each step. The measure is what is left of the script.
use Prim.Native.Nat.{◌-◌}
use lib.ListN.{length}
use Rattle.test_gates.specs.Kept.{Kept}
use Rattle.test_gates.proofs.play.Given as goal

abbrev pub invariant-loop-at : goal.invariant-loop-at
invariant-loop-at l = Kept l.s

abbrev pub decreases-loop-at : goal.decreases-loop-at
decreases-loop-at l = length l.steps - l.at
