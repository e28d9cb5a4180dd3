use native.Mathlib.Omega.{arith}
use Rattle.call_limits.specs.Count.{tallied_turn, held_start, held_end}
use Rattle.call_limits.proofs.count.count_places.Goals as goal

pub loop-i-init : goal.loop-i-init
loop-i-init c = held_start c.requires.sound c.leg_places-k.ensures

pub loop-i-preserved : goal.loop-i-preserved
loop-i-preserved c = tallied_turn c.loop-i.invariant _ c.held_place-k.ensures

pub returns : goal.returns
returns c = held_end c.requires.sound c.leg_places-k.ensures c.loop-i.invariant (omega (arith, c.held_count-i-end.ensures))
