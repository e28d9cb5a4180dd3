use Rattle.std.proofs.Common.{arith, ne_eqb}
use Rattle.test_script.specs.Step.{argument_space, argument_other, argument_end}
use Rattle.test_script.proofs.argument.Goals as goal
use Rattle.test_script.proofs.argument.Goals.{else-at-s-via-then-at-s+else-s-at-eq32, else-at-s-via-else-at-s}

pub returns-then-s-at-eq32 : goal.returns-then-s-at-eq32
returns-then-s-at-eq32 c = argument_space c.args.s.now c.if-at-s.true c.if-s-at-eq32.true c.numeral.ensures c.digit_count.ensures

pub returns : goal.returns
returns c =
    elim c.else-at-s.branch [
      | else-at-s-via-then-at-s+else-s-at-eq32 w ↦ argument_other c.args.s.now c.args.at w.if-at-s.true (ne_eqb _ 32 w.if-s-at-eq32.false)
      | else-at-s-via-else-at-s w ↦ argument_end c.args.s.now c.args.at (omega (arith, w.if-at-s.false, c.requires))
    ]
