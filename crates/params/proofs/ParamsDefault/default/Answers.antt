-- `Params::default` meets its contract.
use Rattle.std.proofs.Common.{refl}
use Rattle.rules.specs.Time.{default}
use Rattle.params.proofs.ParamsDefault.default.Goals as goal

pub returns : goal.returns
unfolding default
returns c = refl
