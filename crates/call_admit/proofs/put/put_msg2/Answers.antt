-- `call_admit::put::put_msg2` meets its contract.
use Rattle.call_admit.specs.Put.{answer_wrote}
use Rattle.call_admit.proofs.put.put_msg2.Goals as goal

pub returns : goal.returns
returns c = answer_wrote c.leg_msg2-m.ensures.value c.leg_msg2-m.ensures.len_bound _ c.leg_link.ensures c.put_answer.ensures
