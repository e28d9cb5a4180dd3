use Rattle.std.proofs.Common.{refl}
use Rattle.rules.specs.Std.{before}
use Rattle.node_addr.specs.Search.{entries_room, entries_takes}
use Rattle.gates_entry.specs.View.{entry_of}
use Rattle.gates.specs.Walk.{after}
use Rattle.gates.proofs.map.place_of.Goals as goal

pub place_before-requires-clause-in_bounds : goal.place_before-requires-clause-in_bounds
place_before-requires-clause-in_bounds c = entries_room c.requires c.memory_count.ensures.value

pub returns : goal.returns
returns c = entries_takes c.requires c.memory_count.ensures.value entry_of (after c.args.peer.0) (before c.args.peer.0) (λ x. refl) c.place_before.ensures
