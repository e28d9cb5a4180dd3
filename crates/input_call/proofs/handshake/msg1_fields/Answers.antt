use Rattle.std.proofs.Common.{ap}
use Rattle.rules.specs.Record.{msg1_fields}
use Rattle.input_cursor.proofs.Field.{bound, bound_none}
use Rattle.input_call.specs.Hello.{hello_of}
use Rattle.input_call.proofs.Read.{gave, told, reads_none, reads_over, reads_all}
use Rattle.input_call.proofs.handshake.msg1_fields.Goals as goal

pub returns-in_err-next_hello-clause-reads : goal.returns-in_err-next_hello-clause-reads
unfolding msg1_fields
returns-in_err-next_hello-clause-reads c = rw c.from_residual.ensures (reads_none c.new-cursor.ensures (bound_none _ c.in_err-next_hello.ensures.took))

pub returns-in_err-flag-clause-reads : goal.returns-in_err-flag-clause-reads
unfolding msg1_fields
returns-in_err-flag-clause-reads c = rw c.from_residual-in_err-flag.ensures (reads_none c.new-cursor.ensures (bound _ c.in_ok-next_hello.ensures.took (bound_none _ c.in_err-flag.ensures)))

pub returns-in_err-end-clause-reads : goal.returns-in_err-end-clause-reads
unfolding msg1_fields
returns-in_err-end-clause-reads c = rw c.from_residual-in_err-end.ensures (reads_over c.new-cursor.ensures (bound _ (told (ap (λ s. hello_of s c.in_ok-next_hello.field-0) c.new-cursor.ensures.rec) c.in_ok-next_hello.ensures.took) (bound _ c.in_ok-flag.ensures gave)) c.in_err-end.ensures)

pub returns-clause-reads : goal.returns-clause-reads
unfolding msg1_fields
returns-clause-reads c = reads_all c.new-cursor.ensures (bound _ (told (ap (λ s. hello_of s c.in_ok-next_hello.field-0) c.new-cursor.ensures.rec) c.in_ok-next_hello.ensures.took) (bound _ c.in_ok-flag.ensures gave)) c.in_ok-end.ensures
