use Rattle.links_entry.specs.Asking.{and_then, and_else}
use Rattle.links_entry.specs.Here.{path_same, pathing}
use Rattle.node_addr.specs.View.{view_pair}
use Rattle.links_entry.proofs.paths.proven_path.Goals as goal

pub eq_pair_at-requires : goal.eq_pair_at-requires
eq_pair_at-requires c = search pathing

pub returns-then-eq_pair_at : goal.returns-then-eq_pair_at
returns-then-eq_pair_at c = and_then (path_same c.requires.fit_paths c.requires.j_bound (view_pair c.args.p) c.eq_pair_at.ensures) c.if-eq_pair_at.true c.counts_at.ensures

pub returns-else-eq_pair_at : goal.returns-else-eq_pair_at
returns-else-eq_pair_at c = and_else _ (path_same c.requires.fit_paths c.requires.j_bound (view_pair c.args.p) c.eq_pair_at.ensures) c.if-eq_pair_at.false
