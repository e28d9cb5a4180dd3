-- `call_admit::answer::answer` meets its contract.
use Rattle.table_layout.specs.View.{view_table}
use Rattle.call_admit.specs.Answer.{last_within, msg2_room, answer_did}
use Rattle.call_admit.proofs.answer.answer.Goals as goal

pub overflow_sub-k : goal.overflow_sub-k
overflow_sub-k c = (last_within _ _ (view_table c.args.t.now) c.open_leg.ensures c.leg_count-k.ensures).0

pub put_msg2-requires : goal.put_msg2-requires
put_msg2-requires c =
    let room = msg2_room _ _ _ _ c.next_leg-leg.ensures c.load_wire_pair-pair.ensures c.open_leg.ensures c.leg_count-k.ensures c.requires.space in
    record { fit_table = c.open_leg.ensures.fit; i_in_bounds = (last_within _ _ (view_table c.args.t.now) c.open_leg.ensures c.leg_count-k.ensures).1; i_in_bounds_2 = room }

pub returns : goal.returns
returns c = answer_did _ _ _ _ c.next_leg-leg.ensures c.load_wire_pair-pair.ensures c.open_leg.ensures c.leg_count-k.ensures c.put_msg2.ensures
