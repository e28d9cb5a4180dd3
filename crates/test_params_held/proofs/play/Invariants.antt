-- The region fits after each step. The measure is what is left of the script.
use Prim.Native.Nat.{◌-◌}
use lib.ListN.{length}
use Rattle.held.specs.View.{FitHeld}
use Rattle.test_params_held.proofs.play.Given as goal

abbrev pub invariant-loop-at : goal.invariant-loop-at
invariant-loop-at l = FitHeld l.s

abbrev pub decreases-loop-at : goal.decreases-loop-at
decreases-loop-at l = length l.steps - l.at
