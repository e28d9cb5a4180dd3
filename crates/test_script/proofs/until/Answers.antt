use Rattle.test_script.specs.Step.{counted}
use Rattle.test_script.proofs.until.Goals as goal

pub returns : goal.returns
returns c = counted c.requires c.run.ensures
