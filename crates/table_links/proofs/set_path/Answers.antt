-- `table_links::set_path` meets its contract.
use lib.Dec.{lit≤}
use Rattle.links.specs.View.{crowding}
use Rattle.rules.specs.Settle as settle
use Rattle.table_layout.specs.View.{view_table}
use Rattle.table_layout.proofs.Told.{part_end, told_links}
use Rattle.table_links.proofs.set_path.Goals as goal

pub slice_bounds-set_path-end : goal.slice_bounds-set_path-end
slice_bounds-set_path-end c = part_end c.requires.fit_table (lit≤ tt)

pub set_path-requires : goal.set_path-requires
unfolding view_table crowding settle.crowded
set_path-requires c = record { fit_links = c.requires.fit_table.links; s_value = c.requires.t_value }

pub returns : goal.returns
unfolding view_table crowding settle.crowded
returns c = told_links c.requires.fit_table c.set_path.ensures.fit_links_2 c.set_path.ensures.s_after
