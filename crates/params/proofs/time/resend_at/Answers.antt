-- `params::time::resend_at` meets its contract.
use Rattle.params.specs.Later.{timing}
use Rattle.params.proofs.time.resend_at.Goals as goal

pub returns : goal.returns
returns c = search timing
