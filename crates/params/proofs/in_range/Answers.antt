-- `params::in_range` meets its contract.
use Rattle.std.proofs.Common.{arith}
use Rattle.rules.specs.Time.{out_of_range}
use Rattle.std.proofs.lemmas.Grind.{common_steps}
use Rattle.params.proofs.in_range.Goals as goal

pub returns-then-p-le-COUNTED_MOST : goal.returns-then-p-le-COUNTED_MOST
unfolding out_of_range
returns-then-p-le-COUNTED_MOST c = grind (arith, common_steps)

pub returns-else-p-le-COUNTED_MOST : goal.returns-else-p-le-COUNTED_MOST
unfolding out_of_range
returns-else-p-le-COUNTED_MOST c = grind (arith, common_steps)
