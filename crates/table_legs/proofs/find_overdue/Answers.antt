-- `table_legs::find_overdue` meets its contract.
use lib.Dec.{lit≤}
use Rattle.table_layout.specs.View.{view_table}
use Rattle.table_layout.proofs.Told.{part_end}
use Rattle.table_legs.proofs.find_overdue.Goals as goal

pub slice_bounds-find_overdue-end : goal.slice_bounds-find_overdue-end
slice_bounds-find_overdue-end c = part_end c.requires (lit≤ tt)

pub returns : goal.returns
unfolding view_table
returns c = c.find_overdue.ensures
