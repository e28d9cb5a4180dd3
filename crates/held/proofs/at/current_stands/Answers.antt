use Rattle.std.proofs.Common.{drop}
use Rattle.node_addr.specs.Place.{pair_here}
use Rattle.held.specs.At.{current_beside, current_cell}
use Rattle.held.proofs.at.current_stands.Goals as goal

pub eq_wire_pair-requires-clause-is_pair : goal.eq_wire_pair-requires-clause-is_pair
eq_wire_pair-requires-clause-is_pair c = current_cell c.requires.fit_held c.requires.i_bound

pub returns : goal.returns
returns c = current_beside c.requires.fit_held c.requires.i_bound (pair_here (drop c.args.from c.args.rec.now)) c.eq_wire_pair.ensures
