use Rattle.rules.specs.Data.{Why}
use Rattle.rules.specs.Field.{whys}
use Rattle.rules.specs.Record.{remove_fields}
use Rattle.input_cursor.proofs.Field.{bound, bound_none, coded}
use Rattle.input_call.proofs.Read.{gave, reads_none, reads_over, reads_all}
use Rattle.input_call.proofs.event.remove_fields.Goals as goal

pub returns-in_err-fixed-clause-reads : goal.returns-in_err-fixed-clause-reads
unfolding remove_fields
returns-in_err-fixed-clause-reads c = rw c.from_residual.ensures (reads_none c.new-cursor.ensures (bound_none _ c.in_err-fixed.ensures))

pub returns-in_err-code-clause-reads : goal.returns-in_err-code-clause-reads
unfolding remove_fields
returns-in_err-code-clause-reads c = rw c.from_residual-in_err-code.ensures (reads_none c.new-cursor.ensures (bound _ c.in_ok-fixed.ensures (bound_none _ (coded whys Why.Restart c.in_err-code.ensures.took))))

pub returns-in_err-end-clause-reads : goal.returns-in_err-end-clause-reads
unfolding remove_fields
returns-in_err-end-clause-reads c = rw c.from_residual-in_err-end.ensures (reads_over c.new-cursor.ensures (bound _ c.in_ok-fixed.ensures (bound _ (coded whys Why.Restart c.in_ok-code.ensures.took) gave)) c.in_err-end.ensures)

pub returns-clause-reads : goal.returns-clause-reads
unfolding remove_fields
returns-clause-reads c = reads_all c.new-cursor.ensures (bound _ c.in_ok-fixed.ensures (bound _ (coded whys Why.Restart c.in_ok-code.ensures.took) gave)) c.in_ok-end.ensures
