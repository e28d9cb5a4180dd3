-- `call_limits::named::leg_is` meets its contract.
use Rattle.std.proofs.Common.{◌∙◌}
use Rattle.lib_laws.specs.Numbers.{same_pointwise}
use Rattle.lib_laws.specs.Cell.{mapped_some, mapped_none}
use Rattle.table_layout.specs.View.{view_table, nth_leg}
use Rattle.call_limits.specs.Count.{peer_none, peer_some}
use Rattle.call_limits.proofs.named.leg_is.Goals as goal

pub returns-in-None : goal.returns-in-None
returns-in-None c = peer_none c.args.peer.0 (nth_leg (view_table c.args.t.now) c.args.i) (mapped_none (λ x. x.0) c.leg_peer.ensures c.in-None.is)

pub returns-in-Some : goal.returns-in-Some
returns-in-Some c = peer_some c.args.peer.0 (nth_leg (view_table c.args.t.now) c.args.i) (mapped_some (λ x. x.0) c.leg_peer.ensures c.in-Some.is) (c.eq.ensures ∙ same_pointwise c.args.peer.0 c.in-Some.q.0)
