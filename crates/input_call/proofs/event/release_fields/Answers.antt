use Rattle.rules.specs.Record.{release_fields}
use Rattle.input_cursor.proofs.Field.{bound, bound_none}
use Rattle.input_call.proofs.Read.{gave, reads_none, reads_over, reads_all}
use Rattle.input_call.proofs.event.release_fields.Goals as goal

pub returns-in_err-u64 : goal.returns-in_err-u64
unfolding release_fields
returns-in_err-u64 c = rw c.from_residual.ensures (reads_none c.new-cursor.ensures (bound_none _ c.in_err-u64.ensures))

pub returns-in_err-pair : goal.returns-in_err-pair
unfolding release_fields
returns-in_err-pair c = rw c.from_residual-in_err-pair.ensures (reads_none c.new-cursor.ensures (bound _ c.in_ok-u64.ensures (bound_none _ c.in_err-pair.ensures)))

pub returns-in_err-flag : goal.returns-in_err-flag
unfolding release_fields
returns-in_err-flag c = rw c.from_residual-in_err-flag.ensures (reads_none c.new-cursor.ensures (bound _ c.in_ok-u64.ensures (bound _ c.in_ok-pair.ensures (bound_none _ c.in_err-flag.ensures))))

pub returns-in_err-end : goal.returns-in_err-end
unfolding release_fields
returns-in_err-end c = rw c.from_residual-in_err-end.ensures (reads_over c.new-cursor.ensures (bound _ c.in_ok-u64.ensures (bound _ c.in_ok-pair.ensures (bound _ c.in_ok-flag.ensures gave))) c.in_err-end.ensures)

pub returns : goal.returns
unfolding release_fields
returns c = reads_all c.new-cursor.ensures (bound _ c.in_ok-u64.ensures (bound _ c.in_ok-pair.ensures (bound _ c.in_ok-flag.ensures gave))) c.in_ok-end.ensures
