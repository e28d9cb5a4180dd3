use native.Mathlib.Omega.{arith}
use Rattle.std.proofs.Common.{refl}
use Rattle.call_limits.specs.Count.{asking_hit, asking_skip, asking_end}
use Rattle.call_limits.proofs.named.leg_names.Goals as goal

pub loop-i-init : goal.loop-i-init
loop-i-init c = record { left = refl }

pub returns-then-leg_is : goal.returns-then-leg_is
returns-then-leg_is c = asking_hit c.loop-i.invariant (omega (arith, c.leg_count-i-end.ensures)) c.leg_is.ensures c.if-leg_is.true

pub loop-i-preserved : goal.loop-i-preserved
loop-i-preserved c = asking_skip c.loop-i.invariant (omega (arith, c.leg_count-i-end.ensures)) c.leg_is.ensures c.if-leg_is.false

pub returns : goal.returns
returns c = asking_end c.loop-i.invariant (omega (arith, c.leg_count-i-end.ensures))
