-- `params::time::deadline` meets its contract.
use Rattle.std.proofs.Common.{arith}
use Rattle.rules.proofs.Time.{deadline_nanos}
use Rattle.params.proofs.time.deadline.Goals as goal

pub returns : goal.returns
returns c = omega (arith, deadline_nanos c.args.now c.args.d)
