use Rattle.lib_laws.specs.Parse.{number_no}
use Rattle.input_cursor.proofs.Field.{took_none, took_some, byte_yes}
use Rattle.input_cursor.proofs.Cursor.byte.Goals as goal

pub returns-in_err-at : goal.returns-in_err-at
returns-in_err-at c = rw c.from_residual.ensures (took_none c.in_err-at.ensures (number_no _))

pub returns : goal.returns
returns c = took_some c.in_ok-at.ensures byte_yes c.get_byte.ensures
