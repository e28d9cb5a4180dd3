use Rattle.std.proofs.Common.{refl, ◌∙◌}
use Rattle.rules.specs.Base.{same}
use Rattle.rules.specs.Gates.{memory_of}
use Rattle.node_addr.specs.Search.{entries_room, entries_scan}
use Rattle.gates_entry.specs.View.{entry_of}
use Rattle.gates.proofs.map.find_memory.Goals as goal

pub find_node-requires-clause-in_bounds : goal.find_node-requires-clause-in_bounds
find_node-requires-clause-in_bounds c = entries_room c.requires c.memory_count.ensures.value

pub returns : goal.returns
returns c = c.find_node.ensures ∙ entries_scan c.requires c.memory_count.ensures.value entry_of (memory_of c.args.peer.0) (same c.args.peer.0) (λ x. refl)
