-- `call_limits::roomy` meets its contract.
use Rattle.call_limits.specs.Count.{sum_fits, sums_fit}
use Rattle.call_limits.proofs.roomy.Goals as goal

pub overflow_add-result : goal.overflow_add-result
overflow_add-result c = sum_fits c.requires c.held_count.ensures c.leg_count.ensures

pub overflow_add-result-2 : goal.overflow_add-result-2
overflow_add-result-2 c = sums_fit c.requires c.held_count.ensures c.leg_count.ensures c.memory_count.ensures
