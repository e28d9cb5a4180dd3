-- `params::time::younger` meets its contract.
use Rattle.params.specs.Later.{timing}
use Rattle.params.proofs.time.younger.Goals as goal

pub returns : goal.returns
returns c = search timing
