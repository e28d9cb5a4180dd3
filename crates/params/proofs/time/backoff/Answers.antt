-- `params::time::backoff` meets its contract.
use Rattle.params.specs.Later.{timing}
use Rattle.params.proofs.time.backoff.Goals as goal

pub returns : goal.returns
returns c = search timing
