-- `params::head::put_spans` meets its contract.
use Rattle.lib_laws.specs.Splice.{wrote_then}
use Rattle.params.proofs.head.put_spans.Goals as goal

pub returns : goal.returns
returns c = wrote_then (wrote_then (wrote_then (wrote_then (wrote_then (wrote_then c.put_be-a.ensures c.put_be-b.ensures) c.put_be-c.ensures) c.put_be-d.ensures) c.put_be-e.ensures) c.put_be-f.ensures) c.put_be.ensures
