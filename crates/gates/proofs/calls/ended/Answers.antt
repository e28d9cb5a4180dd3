use Rattle.std.specs.Prelude.{option_map, Some}
use mathlib.Core.Path.{sym, ap, subst, ◌∙◌}
use Rattle.std.proofs.Common.{ap}
use Rattle.rules.specs.Gates.{memory, ended}
use Rattle.params.specs.View.{view_params}
use Rattle.gates_types.specs.View.{view_digest, view_memory, Within}
use Rattle.gates_entry.specs.View.{view_gates}
use Rattle.gates.specs.Order.{room_for, ended_peer, memory_peer, within_memory}
use Rattle.gates.proofs.calls.ended.Goals as goal

pub ended_by-x-requires-clause-within : goal.ended_by-x-requires-clause-within
ended_by-x-requires-clause-within c = subst (Within (view_params c.args.c)) (sym c.memory_of-m.ensures.result_value) (within_memory (view_params c.args.c) c.args.peer.0 (view_gates c.args.s.now) c.requires.all)

pub store_memory-requires-clause-room_for : goal.store_memory-requires-clause-room_for
store_memory-requires-clause-room_for c =
    let g = view_gates c.args.s.now in
    let p = view_params c.args.c in
    let o = option_map view_digest c.args.setup in
    let e = c.ended_by-x.ensures.result_value ∙ ap (ended p c.args.clock (Some c.args.epoch) o) c.memory_of-m.ensures.result_value in
    room_for (view_memory c.ended_by-x.result) (ended p c.args.clock (Some c.args.epoch) o (memory c.args.peer.0 g)) e (ended_peer p c.args.clock (Some c.args.epoch) o (memory c.args.peer.0 g) ∙ memory_peer c.args.peer.0 g) c.requires.room
