-- A place that was found has a peer.
use Rattle.std.proofs.Common.{sym}
use Rattle.held.specs.Walk.{found_within}
use Rattle.test_params_held.proofs.held_steps.hear_peer.Goals as goal

pub hear-requires-clause-i_bound : goal.hear-requires-clause-i_bound
hear-requires-clause-i_bound c = found_within c.node.result.0 c.requires (sym c.in-Some.ensures)
