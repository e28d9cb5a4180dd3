use Rattle.std.proofs.Common.{refl, ◌∙◌}
use Rattle.rules.specs.Base.{same}
use Rattle.rules.specs.Settle.{named}
use Rattle.node_addr.specs.Search.{entries_room, entries_scan}
use Rattle.held.specs.View.{held_of}
use Rattle.held.proofs.map.find_held.Goals as goal

pub find_node-requires-clause-in_bounds : goal.find_node-requires-clause-in_bounds
find_node-requires-clause-in_bounds c = entries_room c.requires c.held_count.ensures.value

pub returns : goal.returns
returns c = c.find_node.ensures ∙ entries_scan c.requires c.held_count.ensures.value held_of (named c.args.peer.0) (same c.args.peer.0) (λ x. refl)
