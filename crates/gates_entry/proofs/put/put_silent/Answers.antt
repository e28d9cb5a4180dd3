use Rattle.lib_laws.specs.Splice.{wrote_then}
use Rattle.gates_entry.specs.Entry.{silent_bytes}
use Rattle.gates_entry.proofs.put.put_silent.Goals as goal

pub returns-in-Some : goal.returns-in-Some
unfolding silent_bytes
returns-in-Some c = rw c.in-Some.is (wrote_then c.put_flag-a.ensures c.put_silence.ensures)

pub returns-in-None : goal.returns-in-None
unfolding silent_bytes
returns-in-None c = rw c.in-None.is (wrote_then c.put_flag-a-in-None.ensures c.clear.ensures)
