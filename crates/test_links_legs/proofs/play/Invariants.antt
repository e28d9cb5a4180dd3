-- The regions fit after each step. The measure is what is left of the script.
use Prim.Native.Nat.{◌-◌}
use lib.ListN.{length}
use Rattle.links.specs.View.{FitLinks}
use Rattle.legs.specs.View.{FitLegs}
use Rattle.test_links_legs.proofs.play.Given as goal

abbrev pub invariant-loop-at : goal.invariant-loop-at
invariant-loop-at l = FitLinks l.links × FitLegs l.legs

abbrev pub decreases-loop-at : goal.decreases-loop-at
decreases-loop-at l = length l.steps - l.at
