use Rattle.std.proofs.Common.{false}
use Rattle.rules.specs.Field.{flags}
use Rattle.input_cursor.proofs.Field.{coded, flag_read}
use Rattle.input_cursor.proofs.Cursor.flag.Goals as goal

pub returns-in_err-code : goal.returns-in_err-code
returns-in_err-code c = rw c.from_residual.ensures (coded flags false c.in_err-code.ensures.took)

pub returns : goal.returns
returns c = flag_read c.in_ok-code.ensures.took c.in_ok-code.ensures.value_lt_k
