use Rattle.node_addr.specs.View.{view_pair}
use Rattle.held.specs.At.{current_beside, current_cell}
use Rattle.held.proofs.at.current_is.Goals as goal

pub eq_pair_at-requires-clause-is_pair : goal.eq_pair_at-requires-clause-is_pair
eq_pair_at-requires-clause-is_pair c = current_cell c.requires.fit_held c.requires.i_bound

pub returns : goal.returns
returns c = current_beside c.requires.fit_held c.requires.i_bound (view_pair c.args.p) c.eq_pair_at.ensures
