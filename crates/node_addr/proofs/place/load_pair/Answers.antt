use Rattle.std.proofs.Common.{arith, lit<}
use Rattle.node_addr.proofs.Cells.{pair_shown, pair_addr}
use Rattle.node_addr.proofs.place.load_pair.Goals as goal

pub load_cell-requires : goal.load_cell-requires
load_cell-requires c = (lit< tt, (omega arith, pair_addr c.args.s.now c.args.at c.requires.is_pair))

pub returns : goal.returns
returns c = pair_shown c.args.s.now c.args.at _ c.load_cell.result c.get_be-t.ensures.value c.load_cell.ensures
