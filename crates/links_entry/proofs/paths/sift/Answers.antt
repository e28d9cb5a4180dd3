-- `links_entry::paths::sift` meets its contract.
use Rattle.links_entry.specs.Here.{path_cell, pathing, sift_drop, sift_pass}
use Rattle.node_addr.specs.View.{view_pair}
use borrow.Author.Rules.{rules}
use Rattle.links_entry.proofs.paths.sift.Goals as goal

pub overflow_mul-j : goal.overflow_mul-j
overflow_mul-j c = search pathing

pub eq_pair_at-requires : goal.eq_pair_at-requires
eq_pair_at-requires c = record { pair_width_in_bounds = search rules; is_pair = path_cell c.requires.fit_paths c.requires.j_bound }

pub remove_path-requires : goal.remove_path-requires
remove_path-requires c = search pathing

pub shape_of-s-then-eq_pair_at : goal.shape_of-s-then-eq_pair_at
shape_of-s-then-eq_pair_at c = search pathing

pub returns-then-eq_pair_at : goal.returns-then-eq_pair_at
returns-then-eq_pair_at c = record { fit_paths_2 = c.remove_path.ensures.fit_paths_2; sifted = sift_drop c.requires.fit_paths (search rules) (view_pair c.args.p) c.eq_pair_at.ensures c.if-eq_pair_at.true c.remove_path.ensures.s_after }

pub overflow_add-result : goal.overflow_add-result
overflow_add-result c = search pathing

pub shape_of-s : goal.shape_of-s
shape_of-s c = search pathing

pub returns : goal.returns
returns c = record { fit_paths_2 = search rules; sifted = sift_pass c.requires.fit_paths (search rules) (view_pair c.args.p) c.eq_pair_at.ensures c.if-eq_pair_at.false }
