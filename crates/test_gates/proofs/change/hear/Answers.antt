-- The region is kept.
use Rattle.test_gates.specs.Kept.{kept_heard}
use Rattle.test_gates.proofs.change.hear.Goals as goal

pub returns : goal.returns
returns c = kept_heard c.requires _ c.heard.ensures.fit_gates_2 c.heard.ensures.s_after
