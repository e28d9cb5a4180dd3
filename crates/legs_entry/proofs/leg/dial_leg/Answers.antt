-- `legs_entry::leg::dial_leg` meets its contract.
use Rattle.rules.specs.Legs.{dial_leg}
use Rattle.legs_entry.proofs.leg.dial_leg.Goals as goal

pub returns : goal.returns
unfolding dial_leg
returns c = rw (c.deadline.ensures, c.first_resend.ensures)
