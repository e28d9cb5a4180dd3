use Rattle.lib_laws.specs.Splice.{wrote_then}
use Rattle.node_addr.proofs.padded.Padded.put_cell.Goals as goal

pub returns : goal.returns
returns g c = wrote_then c.put_byte-a.ensures c.put.ensures
