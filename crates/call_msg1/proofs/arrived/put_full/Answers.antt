-- `call_msg1::arrived::put_full` meets its contract.
use Rattle.call_msg1.specs.Arrived.{full_room, full_puts, full_not}
use Rattle.call_msg1.proofs.arrived.put_full.Goals as goal

pub put_reject-requires : goal.put_reject-requires
put_reject-requires c = full_room _ c.full.ensures c.if-full.true c.requires.space

pub returns-then-full : goal.returns-then-full
returns-then-full c = full_puts _ c.full.ensures c.if-full.true c.put_reject.ensures

pub returns : goal.returns
returns c = full_not _ c.full.ensures c.if-full.false c.requires.space
