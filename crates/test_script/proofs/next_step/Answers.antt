use Rattle.std.proofs.Common.{refl}
use Rattle.test_script.specs.Step.{steps, fives}
use Rattle.test_script.proofs.next_step.Goals as goal

pub returns-clause-steps : goal.returns-clause-steps
returns-clause-steps c = steps refl c.until.ensures (fives c.argument-a.ensures c.argument-b.ensures c.argument-c.ensures c.argument-d.ensures c.argument-e.ensures) c.until-end.ensures
