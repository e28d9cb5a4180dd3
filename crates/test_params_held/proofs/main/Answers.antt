-- New memory fits.
use Rattle.held.specs.Same.{fit_new}
use Rattle.test_params_held.proofs.main.Goals as goal

pub play-requires : goal.play-requires
play-requires c = fit_new
