use Rattle.std.proofs.Common.{◌∙◌, ap, drop}
use Rattle.rules.specs.Record.{hello}
use Rattle.node_addr.specs.Place.{pair_here}
use Rattle.input_cursor.specs.Span.{span_of}
use Rattle.input_cursor.proofs.Field.{bound, bound_none}
use Rattle.input_call.proofs.Read.{gave, told}
use Rattle.input_call.proofs.handshake.next_hello.Goals as goal

pub returns-in_err-fixed-clause-took : goal.returns-in_err-fixed-clause-took
unfolding hello
returns-in_err-fixed-clause-took c = rw c.from_residual.ensures (bound_none _ c.in_err-fixed.ensures)

pub returns-in_err-skip_pair-clause-took : goal.returns-in_err-skip_pair-clause-took
unfolding hello
returns-in_err-skip_pair-clause-took c = rw c.from_residual-in_err-skip_pair.ensures (bound _ c.in_ok-fixed.ensures (bound_none _ c.in_err-skip_pair.ensures.took))

pub returns-in_err-span-clause-took : goal.returns-in_err-span-clause-took
unfolding hello
returns-in_err-span-clause-took c = rw c.from_residual-in_err-span.ensures (bound _ c.in_ok-fixed.ensures (bound _ c.in_ok-skip_pair.ensures.took (bound_none _ c.in_err-span.ensures.took)))

pub returns-in_err-fixed-2-clause-took : goal.returns-in_err-fixed-2-clause-took
unfolding hello
returns-in_err-fixed-2-clause-took c = rw c.from_residual-in_err-fixed-2.ensures (bound _ c.in_ok-fixed.ensures (bound _ c.in_ok-skip_pair.ensures.took (bound _ c.in_ok-span.ensures.took (bound_none _ c.in_err-fixed-2.ensures))))

pub returns-in_err-u64-clause-took : goal.returns-in_err-u64-clause-took
unfolding hello
returns-in_err-u64-clause-took c = rw c.from_residual-in_err-u64.ensures (bound _ c.in_ok-fixed.ensures (bound _ c.in_ok-skip_pair.ensures.took (bound _ c.in_ok-span.ensures.took (bound _ c.in_ok-fixed-2.ensures (bound_none _ c.in_err-u64.ensures)))))

pub returns-in_err-span-2-clause-took : goal.returns-in_err-span-2-clause-took
unfolding hello
returns-in_err-span-2-clause-took c = rw c.from_residual-in_err-span-2.ensures (bound _ c.in_ok-fixed.ensures (bound _ c.in_ok-skip_pair.ensures.took (bound _ c.in_ok-span.ensures.took (bound _ c.in_ok-fixed-2.ensures (bound _ c.in_ok-u64.ensures (bound_none _ c.in_err-span-2.ensures.took))))))

pub returns-in_err-u32-clause-took : goal.returns-in_err-u32-clause-took
unfolding hello
returns-in_err-u32-clause-took c = rw c.from_residual-in_err-u32.ensures (bound _ c.in_ok-fixed.ensures (bound _ c.in_ok-skip_pair.ensures.took (bound _ c.in_ok-span.ensures.took (bound _ c.in_ok-fixed-2.ensures (bound _ c.in_ok-u64.ensures (bound _ c.in_ok-span-2.ensures.took (bound_none _ c.in_err-u32.ensures)))))))

pub returns-clause-took : goal.returns-clause-took
unfolding hello
returns-clause-took c =
    bound _ c.in_ok-fixed.ensures (
    bound _ (told (ap (λ s. pair_here (drop c.in_ok-skip_pair.field-0 s)) c.in_ok-fixed.ensures.rec) c.in_ok-skip_pair.ensures.took) (
    bound _ (told (ap (λ s. span_of s c.in_ok-span.field-0) (c.in_ok-skip_pair.ensures.took.rec ∙ c.in_ok-fixed.ensures.rec)) c.in_ok-span.ensures.took) (
    bound _ c.in_ok-fixed-2.ensures (
    bound _ c.in_ok-u64.ensures (
    bound _ (told (ap (λ s. span_of s c.in_ok-span-2.field-0) (c.in_ok-u64.ensures.rec ∙ c.in_ok-fixed-2.ensures.rec ∙ c.in_ok-span.ensures.took.rec ∙ c.in_ok-skip_pair.ensures.took.rec ∙ c.in_ok-fixed.ensures.rec)) c.in_ok-span-2.ensures.took) (
    bound _ c.in_ok-u32.ensures gave))))))
