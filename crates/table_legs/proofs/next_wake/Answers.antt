-- `table_legs::next_wake` meets its contract.
use lib.Dec.{lit≤}
use Rattle.table_layout.specs.View.{view_table}
use Rattle.table_layout.proofs.Told.{part_end}
use Rattle.table_legs.proofs.next_wake.Goals as goal

pub slice_bounds-next_wake-end : goal.slice_bounds-next_wake-end
slice_bounds-next_wake-end c = part_end c.requires (lit≤ tt)

pub returns : goal.returns
unfolding view_table
returns c = c.next_wake.ensures
