-- `call_limits::named::named_from` meets its contract.
use Rattle.std.proofs.Common.{◌∙◌}
use Rattle.table_layout.specs.View.{view_table}
use Rattle.call_limits.specs.Count.{from_memory, from_leg_lem}
use Rattle.call_limits.proofs.named.named_from.Goals as goal

pub returns-then-is_some : goal.returns-then-is_some
returns-then-is_some c = c.if-is_some.true ∙ from_memory (view_table c.args.t.now) c.args.peer.0 c.args.from c.find_memory.ensures c.is_some.ensures c.if-is_some.true

pub returns-else-is_some : goal.returns-else-is_some
returns-else-is_some c = from_leg_lem (view_table c.args.t.now) c.args.peer.0 c.args.from c.find_memory.ensures c.is_some.ensures c.if-is_some.false c.leg_names.ensures
