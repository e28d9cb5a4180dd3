use Rattle.rules.specs.Data.{Live}
use Rattle.rules.specs.Field.{states}
use Rattle.rules.specs.Record.{path_fields}
use Rattle.input_cursor.proofs.Field.{bound, bound_none, coded}
use Rattle.input_call.proofs.Read.{gave, reads_none, reads_over, reads_all}
use Rattle.input_call.proofs.event.path_fields.Goals as goal

pub returns-in_err-u64-clause-reads : goal.returns-in_err-u64-clause-reads
unfolding path_fields
returns-in_err-u64-clause-reads c = rw c.from_residual.ensures (reads_none c.new-cursor.ensures (bound_none _ c.in_err-u64.ensures))

pub returns-in_err-pair-clause-reads : goal.returns-in_err-pair-clause-reads
unfolding path_fields
returns-in_err-pair-clause-reads c = rw c.from_residual-in_err-pair.ensures (reads_none c.new-cursor.ensures (bound _ c.in_ok-u64.ensures (bound_none _ c.in_err-pair.ensures)))

pub returns-in_err-code-clause-reads : goal.returns-in_err-code-clause-reads
unfolding path_fields
returns-in_err-code-clause-reads c = rw c.from_residual-in_err-code.ensures (reads_none c.new-cursor.ensures (bound _ c.in_ok-u64.ensures (bound _ c.in_ok-pair.ensures (bound_none _ (coded states Live c.in_err-code.ensures.took)))))

pub returns-in_err-end-clause-reads : goal.returns-in_err-end-clause-reads
unfolding path_fields
returns-in_err-end-clause-reads c = rw c.from_residual-in_err-end.ensures (reads_over c.new-cursor.ensures (bound _ c.in_ok-u64.ensures (bound _ c.in_ok-pair.ensures (bound _ (coded states Live c.in_ok-code.ensures.took) gave))) c.in_err-end.ensures)

pub returns-clause-reads : goal.returns-clause-reads
unfolding path_fields
returns-clause-reads c = reads_all c.new-cursor.ensures (bound _ c.in_ok-u64.ensures (bound _ c.in_ok-pair.ensures (bound _ (coded states Live c.in_ok-code.ensures.took) gave))) c.in_ok-end.ensures
