use native.Mathlib.Omega.{arith}
use Rattle.call_limits.specs.Count.{tallied_turn, legs_start, legs_end}
use Rattle.call_limits.proofs.count.leg_places.Goals as goal

pub loop-i-init : goal.loop-i-init
loop-i-init c = legs_start c.requires.sound c.memory_count-k.ensures

pub loop-i-preserved : goal.loop-i-preserved
loop-i-preserved c = tallied_turn c.loop-i.invariant _ c.leg_place-k.ensures

pub returns : goal.returns
returns c = legs_end c.requires.sound c.memory_count-k.ensures c.loop-i.invariant (omega (arith, c.leg_count-i-end.ensures))
