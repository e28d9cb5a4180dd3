use Rattle.node_addr.specs.Place.{message_cell}
use Rattle.legs_entry.proofs.entry.put_msg2.Goals as goal

pub returns-in-Some : goal.returns-in-Some
unfolding message_cell
returns-in-Some c = rw c.in-Some.is c.put_message.ensures
