-- `table_legs::leg_count` meets its contract.
use lib.Dec.{lit≤}
use Rattle.table_layout.specs.View.{view_table}
use Rattle.table_layout.proofs.Told.{part_end}
use Rattle.table_legs.proofs.leg_count.Goals as goal

pub slice_bounds-leg_count-end : goal.slice_bounds-leg_count-end
slice_bounds-leg_count-end c = part_end c.requires (lit≤ tt)

pub returns : goal.returns
unfolding view_table
returns c = c.leg_count.ensures.value_2
