-- `table_legs::find_leg` meets its contract.
use lib.Dec.{lit≤}
use Rattle.table_layout.specs.View.{view_table}
use Rattle.table_layout.proofs.Told.{part_end}
use Rattle.table_legs.proofs.find_leg.Goals as goal

pub slice_bounds-find_leg-end : goal.slice_bounds-find_leg-end
slice_bounds-find_leg-end c = part_end c.requires (lit≤ tt)

pub returns : goal.returns
unfolding view_table
returns c = c.find_leg.ensures
