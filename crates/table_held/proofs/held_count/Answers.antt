-- `table_held::held_count` meets its contract.
use lib.Dec.{lit≤}
use Rattle.table_layout.specs.View.{view_table}
use Rattle.table_layout.proofs.Told.{part_end}
use Rattle.table_held.proofs.held_count.Goals as goal

pub slice_bounds-held_count-end : goal.slice_bounds-held_count-end
slice_bounds-held_count-end c = part_end c.requires (lit≤ tt)

pub returns : goal.returns
unfolding view_table
returns c = c.held_count.ensures.value_2
