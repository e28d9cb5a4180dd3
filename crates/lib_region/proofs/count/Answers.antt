-- `lib_region::count` meets its contract.
use native.Mathlib.Omega.{arith}
use Rattle.lib_region.proofs.count.Goals as goal

pub overflow_cast-result : goal.overflow_cast-result
overflow_cast-result c = omega (arith, c.type_inv.s c.args.end)
