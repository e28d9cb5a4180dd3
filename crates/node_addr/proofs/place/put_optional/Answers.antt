use Rattle.lib_laws.specs.Splice.{wrote_then}
use Rattle.node_addr.proofs.place.put_optional.Goals as goal

pub returns-in-Some : goal.returns-in-Some
returns-in-Some g c = rw c.in-Some.is (wrote_then c.put_flag-a.ensures c.put_fixed.ensures)

pub returns-in-None : goal.returns-in-None
returns-in-None g c = rw c.in-None.is (wrote_then c.put_flag-a-in-None.ensures c.clear.ensures)
