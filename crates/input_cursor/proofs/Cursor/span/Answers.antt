use Rattle.std.proofs.Common.{refl, rules}
use Rattle.rules.specs.Field.{message}
use Rattle.input_cursor.proofs.Field.{bound_none, message_off, message_on, over, within_none}
use Rattle.input_cursor.proofs.Cursor.span.Goals as goal

pub returns-in_err-len-clause-took : goal.returns-in_err-len-clause-took
unfolding message
returns-in_err-len-clause-took c = rw c.from_residual.ensures (bound_none _ c.in_err-len.ensures.took)

pub returns-then-len-gt-MESSAGE_CAP-clause-took : goal.returns-then-len-gt-MESSAGE_CAP-clause-took
returns-then-len-gt-MESSAGE_CAP-clause-took c = message_off c.in_ok-len.ensures.took (over (search rules) refl refl)

pub returns-in_err-at-clause-took : goal.returns-in_err-at-clause-took
returns-in_err-at-clause-took c = rw c.from_residual-in_err-at.ensures (message_off c.in_ok-len.ensures.took (within_none (search rules) c.in_err-at.ensures))

pub returns-clause-took : goal.returns-clause-took
returns-clause-took c = message_on c.in_ok-len.ensures.took (search rules) c.in_ok-at.ensures
