-- `params::head::put_counts` meets its contract.
use Rattle.lib_laws.specs.Splice.{wrote_then}
use Rattle.params.proofs.head.put_counts.Goals as goal

pub returns : goal.returns
returns c = wrote_then (wrote_then (wrote_then (wrote_then c.put_be-a.ensures c.put_be-b.ensures) c.put_byte-c.ensures) c.put_byte-d.ensures) c.put_be.ensures
