use Rattle.std.proofs.Common.{refl}
use Rattle.rules.specs.Std.{before}
use Rattle.node_addr.specs.Search.{entries_room, entries_takes}
use Rattle.held.specs.At.{precedes}
use Rattle.held.specs.View.{held_of}
use Rattle.held.proofs.map.place_for.Goals as goal

pub place_before-requires-clause-in_bounds : goal.place_before-requires-clause-in_bounds
place_before-requires-clause-in_bounds c = entries_room c.requires c.held_count.ensures.value

pub returns : goal.returns
returns c = entries_takes c.requires c.held_count.ensures.value held_of (precedes c.args.peer.0) (before c.args.peer.0) (λ x. refl) c.place_before.ensures
