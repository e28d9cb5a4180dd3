-- New memory has no memory of a peer.
use Rattle.test_gates.specs.Kept.{kept_new}
use Rattle.test_gates.proofs.run.Goals as goal

pub play-requires : goal.play-requires
play-requires c = kept_new
