-- `call_limits::named::has_place` meets its contract.
use Rattle.std.proofs.Common.{◌∙◌}
use Rattle.table_layout.specs.View.{view_table}
use Rattle.call_limits.specs.Count.{place_held, place_else}
use Rattle.call_limits.proofs.named.has_place.Goals as goal

pub returns-then-is_some : goal.returns-then-is_some
returns-then-is_some c = c.if-is_some.true ∙ place_held (view_table c.args.t.now) c.args.peer.0 c.find_held.ensures c.is_some.ensures c.if-is_some.true

pub returns-else-is_some : goal.returns-else-is_some
returns-else-is_some c = place_else (view_table c.args.t.now) c.args.peer.0 c.find_held.ensures c.is_some.ensures c.if-is_some.false c.named_from.ensures
