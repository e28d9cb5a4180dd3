use Rattle.node_addr.specs.Place.{message_cell}
use Rattle.node_addr.proofs.place.put_message.Goals as goal

pub returns : goal.returns
unfolding message_cell
returns c = c.put_cell.ensures
