-- `table_held::find_held` meets its contract.
use lib.Dec.{lit≤}
use Rattle.table_layout.specs.View.{view_table}
use Rattle.table_layout.proofs.Told.{part_end}
use Rattle.table_held.proofs.find_held.Goals as goal

pub slice_bounds-find_held-end : goal.slice_bounds-find_held-end
slice_bounds-find_held-end c = part_end c.requires (lit≤ tt)

pub returns : goal.returns
unfolding view_table
returns c = c.find_held.ensures
