-- A place that was found has a peer.
use Rattle.std.proofs.Common.{sym}
use Rattle.held.specs.Walk.{found_within}
use Rattle.test_params_held.proofs.held_steps.restart_peer.Goals as goal

pub set_epoch-requires-clause-i_bound : goal.set_epoch-requires-clause-i_bound
set_epoch-requires-clause-i_bound c = found_within c.node.result.0 c.requires (sym c.in-Some.ensures)
