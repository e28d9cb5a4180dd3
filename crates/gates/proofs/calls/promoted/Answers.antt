use mathlib.Core.Path.{ap, ◌∙◌}
use Rattle.std.proofs.Common.{ap}
use Rattle.rules.specs.Gates.{memory, promoted}
use Rattle.params.specs.View.{view_params}
use Rattle.gates_types.specs.View.{view_memory}
use Rattle.gates_entry.specs.View.{view_gates}
use Rattle.gates.specs.Order.{room_for, promoted_peer, memory_peer}
use Rattle.gates.proofs.calls.promoted.Goals as goal

pub store_memory-requires-clause-room_for : goal.store_memory-requires-clause-room_for
store_memory-requires-clause-room_for c =
    let g = view_gates c.args.s.now in
    let p = view_params c.args.c in
    let e = c.promoted_by-x.ensures.result_value ∙ ap (promoted p c.args.clock c.args.digest.0) c.memory_of-m.ensures.result_value in
    room_for (view_memory c.promoted_by-x.result) (promoted p c.args.clock c.args.digest.0 (memory c.args.peer.0 g)) e (promoted_peer p c.args.clock c.args.digest.0 (memory c.args.peer.0 g) ∙ memory_peer c.args.peer.0 g) c.requires.room
