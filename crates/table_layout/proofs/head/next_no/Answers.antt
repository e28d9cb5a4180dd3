-- `table_layout::head::next_no` meets its contract.
use lib.Dec.{lit≤}
use Rattle.table_layout.specs.View.{view_table}
use Rattle.table_layout.proofs.Told.{part_end}
use Rattle.table_layout.proofs.head.next_no.Goals as goal

pub slice_bounds-get_next-end : goal.slice_bounds-get_next-end
slice_bounds-get_next-end c = part_end c.requires (lit≤ tt)

pub returns : goal.returns
unfolding view_table
returns c = c.get_next.ensures
