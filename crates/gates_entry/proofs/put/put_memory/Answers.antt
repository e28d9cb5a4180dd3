use Rattle.lib_laws.specs.Splice.{wrote_then}
use Rattle.gates_entry.specs.Entry.{replays_bytes, put_memory_is}
use Rattle.gates_entry.proofs.put.put_memory.Goals as goal

pub returns : goal.returns
unfolding replays_bytes
returns c = put_memory_is _ (wrote_then (wrote_then (wrote_then c.put_fixed-a.ensures c.put_option-b.ensures) c.put_silent-c.ensures) c.put_row.ensures)
