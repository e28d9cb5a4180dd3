use Rattle.lib_laws.specs.Splice.{wrote_then}
use Rattle.rules.specs.Field.{digits}
use Rattle.legs_entry.proofs.entry.put_answer.Goals as goal

pub returns-in-Some : goal.returns-in-Some
returns-in-Some c = rw c.in-Some.is (wrote_then (wrote_then (wrote_then c.put_flag-a.ensures c.put_flag-b.ensures) c.put_be-c.ensures) c.put_fixed.ensures)

pub returns-in-None : goal.returns-in-None
unfolding digits
returns-in-None c = rw c.in-None.is c.clear.ensures
