use Rattle.lib_laws.specs.Parse.{number_yes, number_no}
use Rattle.input_cursor.proofs.Field.{took_none, took_some}
use Rattle.input_cursor.proofs.Cursor.number.Goals as goal

pub returns-in_err-at-clause-took : goal.returns-in_err-at-clause-took
returns-in_err-at-clause-took c = rw c.from_residual.ensures (took_none c.in_err-at.ensures (number_no _))

pub returns-clause-took : goal.returns-clause-took
returns-clause-took c = took_some c.in_ok-at.ensures (number_yes _) c.get_be.ensures.value
