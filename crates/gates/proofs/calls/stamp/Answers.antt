use mathlib.Core.Path.{ap, ◌∙◌}
use Rattle.std.proofs.Common.{ap}
use Rattle.rules.specs.Gates.{memory, stamped}
use Rattle.gates_types.specs.View.{view_memory}
use Rattle.gates_entry.specs.View.{view_gates}
use Rattle.gates.specs.Order.{room_for, memory_peer}
use Rattle.gates.proofs.calls.stamp.Goals as goal

pub store_memory-requires-clause-room_for : goal.store_memory-requires-clause-room_for
store_memory-requires-clause-room_for c =
    let g = view_gates c.args.s.now in
    let e = c.stamped_at-x.ensures.result_value ∙ ap (stamped c.args.clock) c.memory_of-m.ensures.result_value in
    room_for (view_memory c.stamped_at-x.result) (stamped c.args.clock (memory c.args.peer.0 g)) e (memory_peer c.args.peer.0 g) c.requires.room
