use Rattle.rules.specs.Record.{link_fields}
use Rattle.input_cursor.proofs.Field.{bound, bound_none}
use Rattle.input_call.proofs.Read.{gave, reads_none, reads_over, reads_all}
use Rattle.input_call.proofs.event.link_fields.Goals as goal

pub returns-in_err-u64 : goal.returns-in_err-u64
unfolding link_fields
returns-in_err-u64 c = λ f. rw c.from_residual.ensures (reads_none c.new-cursor.ensures (bound_none _ c.in_err-u64.ensures))

pub returns-in_err-end : goal.returns-in_err-end
unfolding link_fields
returns-in_err-end c = λ f. rw c.from_residual-in_err-end.ensures (reads_over c.new-cursor.ensures (bound _ c.in_ok-u64.ensures gave) c.in_err-end.ensures)

pub returns : goal.returns
unfolding link_fields
returns c = λ f. reads_all c.new-cursor.ensures (bound _ c.in_ok-u64.ensures gave) c.in_ok-end.ensures
