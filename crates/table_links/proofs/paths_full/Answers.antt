-- `table_links::paths_full` meets its contract.
use lib.Dec.{lit≤}
use Rattle.links.specs.View.{crowding}
use Rattle.rules.specs.Settle as settle
use Rattle.table_layout.specs.View.{view_table}
use Rattle.table_layout.proofs.Told.{part_end}
use Rattle.table_links.proofs.paths_full.Goals as goal

pub slice_bounds-paths_full-end : goal.slice_bounds-paths_full-end
slice_bounds-paths_full-end c = part_end c.requires.fit_table (lit≤ tt)

pub returns : goal.returns
unfolding view_table crowding settle.crowded
returns c = c.paths_full.ensures
