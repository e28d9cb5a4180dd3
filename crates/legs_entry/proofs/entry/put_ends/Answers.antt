-- `legs_entry::entry::put_ends` meets its contract.
use Rattle.lib_laws.specs.Cell.{is_some_is}
use Rattle.lib_laws.specs.Splice.{wrote_then}
use Rattle.legs_entry.proofs.entry.put_ends.Goals as goal

pub returns : goal.returns
returns c = rw (← is_some_is c.args.l.now.answer, ← c.is_some.ensures) (wrote_then (wrote_then c.put_flag-a.ensures c.put_optional-b.ensures) c.put_answer.ensures)
