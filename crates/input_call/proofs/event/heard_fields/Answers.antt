use Rattle.std.proofs.Common.{◌∙◌, ap, drop}
use Rattle.rules.specs.Record.{heard_fields}
use Rattle.node_addr.specs.Place.{pair_here}
use Rattle.input_cursor.proofs.Field.{bound, bound_none}
use Rattle.input_call.proofs.Read.{gave, told, reads_none, reads_over, reads_all}
use Rattle.input_call.proofs.event.heard_fields.Goals as goal

pub returns-in_err-fixed-clause-reads : goal.returns-in_err-fixed-clause-reads
unfolding heard_fields
returns-in_err-fixed-clause-reads c = rw c.from_residual.ensures (reads_none c.new-cursor.ensures (bound_none _ c.in_err-fixed.ensures))

pub returns-in_err-skip_pair-clause-reads : goal.returns-in_err-skip_pair-clause-reads
unfolding heard_fields
returns-in_err-skip_pair-clause-reads c = rw c.from_residual-in_err-skip_pair.ensures (reads_none c.new-cursor.ensures (bound _ c.in_ok-fixed.ensures (bound_none _ c.in_err-skip_pair.ensures.took)))

pub returns-in_err-end-clause-reads : goal.returns-in_err-end-clause-reads
unfolding heard_fields
returns-in_err-end-clause-reads c = rw c.from_residual-in_err-end.ensures (reads_over c.new-cursor.ensures (bound _ c.in_ok-fixed.ensures (bound _ (told (ap (λ s. pair_here (drop c.in_ok-skip_pair.field-0 s)) (c.in_ok-fixed.ensures.rec ∙ c.new-cursor.ensures.rec)) c.in_ok-skip_pair.ensures.took) gave)) c.in_err-end.ensures)

pub returns-clause-reads : goal.returns-clause-reads
unfolding heard_fields
returns-clause-reads c = reads_all c.new-cursor.ensures (bound _ c.in_ok-fixed.ensures (bound _ (told (ap (λ s. pair_here (drop c.in_ok-skip_pair.field-0 s)) (c.in_ok-fixed.ensures.rec ∙ c.new-cursor.ensures.rec)) c.in_ok-skip_pair.ensures.took) gave)) c.in_ok-end.ensures
