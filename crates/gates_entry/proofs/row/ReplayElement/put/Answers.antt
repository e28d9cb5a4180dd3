use Rattle.lib_laws.specs.Splice.{wrote_then}
use Rattle.gates_entry.proofs.row.ReplayElement.put.Goals as goal

pub returns : goal.returns
returns c = wrote_then c.put_fixed-a.ensures c.put_be.ensures
