use Rattle.rules.specs.Record.{dial_fields}
use Rattle.input_cursor.proofs.Field.{bound, bound_none}
use Rattle.input_call.proofs.Read.{gave, reads_none, reads_over, reads_all}
use Rattle.input_call.proofs.handshake.dial_fields.Goals as goal

pub returns-in_err-fixed : goal.returns-in_err-fixed
unfolding dial_fields
returns-in_err-fixed c = rw c.from_residual.ensures (reads_none c.new-cursor.ensures (bound_none _ c.in_err-fixed.ensures))

pub returns-in_err-pair : goal.returns-in_err-pair
unfolding dial_fields
returns-in_err-pair c = rw c.from_residual-in_err-pair.ensures (reads_none c.new-cursor.ensures (bound _ c.in_ok-fixed.ensures (bound_none _ c.in_err-pair.ensures)))

pub returns-in_err-message : goal.returns-in_err-message
unfolding dial_fields
returns-in_err-message c = rw c.from_residual-in_err-message.ensures (reads_none c.new-cursor.ensures (bound _ c.in_ok-fixed.ensures (bound _ c.in_ok-pair.ensures (bound_none _ c.in_err-message.ensures))))

pub returns-in_err-u32 : goal.returns-in_err-u32
unfolding dial_fields
returns-in_err-u32 c = rw c.from_residual-in_err-u32.ensures (reads_none c.new-cursor.ensures (bound _ c.in_ok-fixed.ensures (bound _ c.in_ok-pair.ensures (bound _ c.in_ok-message.ensures (bound_none _ c.in_err-u32.ensures)))))

pub returns-in_err-end : goal.returns-in_err-end
unfolding dial_fields
returns-in_err-end c = rw c.from_residual-in_err-end.ensures (reads_over c.new-cursor.ensures (bound _ c.in_ok-fixed.ensures (bound _ c.in_ok-pair.ensures (bound _ c.in_ok-message.ensures (bound _ c.in_ok-u32.ensures gave)))) c.in_err-end.ensures)

pub returns : goal.returns
unfolding dial_fields
returns c = reads_all c.new-cursor.ensures (bound _ c.in_ok-fixed.ensures (bound _ c.in_ok-pair.ensures (bound _ c.in_ok-message.ensures (bound _ c.in_ok-u32.ensures gave)))) c.in_ok-end.ensures
