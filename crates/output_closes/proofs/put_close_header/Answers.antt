use Rattle.lib_laws.specs.Splice.{wrote_then}
use Rattle.output_closes.specs.Lists.{close_header}
use Rattle.output_closes.proofs.put_close_header.Goals as goal

pub returns : goal.returns
unfolding close_header
returns c = wrote_then c.put_kind-a.ensures c.put_be.ensures
