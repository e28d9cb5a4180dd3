-- New memory fits, for links and for legs.
use Rattle.links.specs.Zeros.{links_new}
use Rattle.legs.specs.Same.{fit_new}
use Rattle.test_links_legs.proofs.run.Goals as goal

pub play-requires : goal.play-requires
play-requires c = record { fit_links = links_new; fit_legs = fit_new }
