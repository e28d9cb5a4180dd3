-- `call_limits::count::held_place` meets its contract.
use Rattle.table_layout.specs.View.{view_table}
use Rattle.call_limits.specs.Count.{held_again, held_new}
use Rattle.call_limits.proofs.count.held_place.Goals as goal

pub returns-then-named_from : goal.returns-then-named_from
returns-then-named_from c = held_again (view_table c.args.t.now) c.requires.ready.sound.shaped.ordered.held c.requires.i_in_bounds c.held_peer.ensures c.named_from.ensures c.if-named_from.true

pub returns-else-named_from : goal.returns-else-named_from
returns-else-named_from c = held_new (view_table c.args.t.now) c.requires.ready.sound.shaped.ordered.held c.requires.i_in_bounds c.held_peer.ensures c.named_from.ensures c.if-named_from.false
