use Rattle.lib_laws.specs.Parse.{bytes_yes, bytes_no}
use Rattle.input_cursor.proofs.Field.{took_none, took_some}
use Rattle.input_cursor.proofs.Cursor.fixed.Goals as goal

pub returns-in_err-at : goal.returns-in_err-at
returns-in_err-at g c = rw c.from_residual.ensures (took_none c.in_err-at.ensures (bytes_no _))

pub returns : goal.returns
returns g c = took_some c.in_ok-at.ensures (bytes_yes _) c.load_fixed.ensures
