use Rattle.rules.specs.Record.{restarted_fields}
use Rattle.input_cursor.proofs.Field.{bound, bound_none}
use Rattle.input_call.proofs.Read.{gave, reads_none, reads_over, reads_all}
use Rattle.input_call.proofs.event.restarted_fields.Goals as goal

pub returns-in_err-fixed : goal.returns-in_err-fixed
unfolding restarted_fields
returns-in_err-fixed c = rw c.from_residual.ensures (reads_none c.new-cursor.ensures (bound_none _ c.in_err-fixed.ensures))

pub returns-in_err-u64 : goal.returns-in_err-u64
unfolding restarted_fields
returns-in_err-u64 c = rw c.from_residual-in_err-u64.ensures (reads_none c.new-cursor.ensures (bound _ c.in_ok-fixed.ensures (bound_none _ c.in_err-u64.ensures)))

pub returns-in_err-end : goal.returns-in_err-end
unfolding restarted_fields
returns-in_err-end c = rw c.from_residual-in_err-end.ensures (reads_over c.new-cursor.ensures (bound _ c.in_ok-fixed.ensures (bound _ c.in_ok-u64.ensures gave)) c.in_err-end.ensures)

pub returns : goal.returns
unfolding restarted_fields
returns c = reads_all c.new-cursor.ensures (bound _ c.in_ok-fixed.ensures (bound _ c.in_ok-u64.ensures gave)) c.in_ok-end.ensures
