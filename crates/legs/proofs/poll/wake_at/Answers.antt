-- `legs::poll::wake_at` meets its contract.
use Rattle.legs.specs.Walk.{wake_is}
use Rattle.std.proofs.Common.{◌∙◌}
use Rattle.legs.proofs.poll.wake_at.Goals as goal

pub returns : goal.returns
returns c = c.min.ensures ∙ wake_is _ c.next_at.ensures c.deadline_at-d.ensures c.unwrap_or.ensures
