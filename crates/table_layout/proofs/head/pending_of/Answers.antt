-- `table_layout::head::pending_of` meets its contract.
use lib.Dec.{lit≤}
use Rattle.table_layout.specs.View.{view_table}
use Rattle.table_layout.proofs.Told.{part_end}
use Rattle.table_layout.proofs.head.pending_of.Goals as goal

pub slice_bounds-get_pending-end : goal.slice_bounds-get_pending-end
slice_bounds-get_pending-end c = part_end c.requires (lit≤ tt)

pub returns : goal.returns
unfolding view_table
returns c = c.get_pending.ensures
