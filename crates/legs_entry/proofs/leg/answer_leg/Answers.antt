-- `legs_entry::leg::answer_leg` meets its contract.
use Rattle.rules.specs.Legs.{answer_leg}
use Rattle.legs_entry.proofs.leg.answer_leg.Goals as goal

pub returns : goal.returns
unfolding answer_leg
returns c = λ from. rw c.deadline.ensures
