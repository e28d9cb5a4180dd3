-- `call_admit::answer::next_leg` meets its contract.
use Rattle.call_admit.specs.Answer.{leg_is}
use Rattle.call_admit.proofs.answer.next_leg.Goals as goal

pub returns : goal.returns
returns c = leg_is _ _ _ c.params_of-c.ensures c.next_no.ensures c.message_of-msg1.ensures c.message_of.ensures (c.answer_leg.ensures _)
