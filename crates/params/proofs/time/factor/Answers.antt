-- `params::time::factor` meets its contract.
use Rattle.params.specs.Later.{timing}
use Rattle.params.proofs.time.factor.Goals as goal

pub overflow_shl-result : goal.overflow_shl-result
overflow_shl-result c = search timing

pub returns-then-exponent-lt-FACTOR_BITS : goal.returns-then-exponent-lt-FACTOR_BITS
returns-then-exponent-lt-FACTOR_BITS c = search timing

pub returns : goal.returns
returns c = search timing
