use Rattle.std.proofs.Common.{refl, rules}
use Rattle.input_cursor.proofs.Field.{below_none, below_over, below_read}
use Rattle.input_cursor.proofs.Cursor.code.Goals as goal

pub returns-in_err-v-clause-took : goal.returns-in_err-v-clause-took
returns-in_err-v-clause-took c = rw c.from_residual.ensures (below_none _ c.in_err-v.ensures)

pub returns-then-k-v-clause-took : goal.returns-then-k-v-clause-took
returns-then-k-v-clause-took c = below_over _ c.in_ok-v.ensures (search rules) refl refl

pub returns-clause-took : goal.returns-clause-took
returns-clause-took c = below_read _ c.in_ok-v.ensures (search rules)
