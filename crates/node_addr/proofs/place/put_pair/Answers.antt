use Rattle.lib_laws.specs.Splice.{wrote_then}
use Rattle.node_addr.specs.Place.{pair_cell}
use Rattle.node_addr.proofs.place.put_pair.Goals as goal

pub returns : goal.returns
unfolding pair_cell
returns c = wrote_then c.put_be-a.ensures c.put_cell.ensures
