-- `legs_entry::entry::put_times` meets its contract.
use Rattle.lib_laws.specs.Splice.{wrote_then}
use Rattle.legs_entry.proofs.entry.put_times.Goals as goal

pub returns : goal.returns
returns c = wrote_then (wrote_then (wrote_then (wrote_then c.put_be-a.ensures c.put_be-b.ensures) c.put_option-c.ensures) c.put_be-d.ensures) c.put_be.ensures
