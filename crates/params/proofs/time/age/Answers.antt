-- `params::time::age` meets its contract.
use Rattle.rules.specs.Std.{saturating_since}
use Rattle.params.proofs.time.age.Goals as goal

pub returns-clause-result_value : goal.returns-clause-result_value
unfolding saturating_since
returns-clause-result_value c = cc
