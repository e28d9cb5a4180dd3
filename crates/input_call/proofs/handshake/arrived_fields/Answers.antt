use Rattle.std.proofs.Common.{◌∙◌, ap, drop}
use Rattle.rules.specs.Record.{arrived_fields}
use Rattle.node_addr.specs.Place.{pair_here}
use Rattle.input_cursor.specs.Span.{span_of}
use Rattle.input_cursor.proofs.Field.{bound, bound_none}
use Rattle.input_call.proofs.Read.{gave, told, reads_none, reads_over, reads_all}
use Rattle.input_call.proofs.handshake.arrived_fields.Goals as goal

pub returns-in_err-skip_pair-clause-reads : goal.returns-in_err-skip_pair-clause-reads
unfolding arrived_fields
returns-in_err-skip_pair-clause-reads c = rw c.from_residual.ensures (reads_none c.new-cursor.ensures (bound_none _ c.in_err-skip_pair.ensures.took))

pub returns-in_err-span-clause-reads : goal.returns-in_err-span-clause-reads
unfolding arrived_fields
returns-in_err-span-clause-reads c = rw c.from_residual-in_err-span.ensures (reads_none c.new-cursor.ensures (bound _ c.in_ok-skip_pair.ensures.took (bound_none _ c.in_err-span.ensures.took)))

pub returns-in_err-end-clause-reads : goal.returns-in_err-end-clause-reads
unfolding arrived_fields
returns-in_err-end-clause-reads c = rw c.from_residual-in_err-end.ensures (reads_over c.new-cursor.ensures (bound _ (told (ap (λ s. pair_here (drop c.in_ok-skip_pair.field-0 s)) c.new-cursor.ensures.rec) c.in_ok-skip_pair.ensures.took) (bound _ (told (ap (λ s. span_of s c.in_ok-span.field-0) (c.in_ok-skip_pair.ensures.took.rec ∙ c.new-cursor.ensures.rec)) c.in_ok-span.ensures.took) gave)) c.in_err-end.ensures)

pub returns-clause-reads : goal.returns-clause-reads
unfolding arrived_fields
returns-clause-reads c = reads_all c.new-cursor.ensures (bound _ (told (ap (λ s. pair_here (drop c.in_ok-skip_pair.field-0 s)) c.new-cursor.ensures.rec) c.in_ok-skip_pair.ensures.took) (bound _ (told (ap (λ s. span_of s c.in_ok-span.field-0) (c.in_ok-skip_pair.ensures.took.rec ∙ c.new-cursor.ensures.rec)) c.in_ok-span.ensures.took) gave)) c.in_ok-end.ensures
