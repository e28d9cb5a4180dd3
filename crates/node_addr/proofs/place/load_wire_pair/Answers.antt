use Rattle.node_addr.proofs.Cells.{spelt_shown}
use Rattle.node_addr.proofs.place.load_wire_pair.Goals as goal

pub returns : goal.returns
returns c = spelt_shown c.args.rec.now c.args.from _ c.get_byte-n.result c.load.result c.get_be-t.ensures.value c.get_byte-n.ensures c.load.ensures
