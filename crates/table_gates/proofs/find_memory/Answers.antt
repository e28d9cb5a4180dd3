-- `table_gates::find_memory` meets its contract.
use lib.Dec.{lit≤}
use Rattle.table_layout.specs.View.{view_table}
use Rattle.table_layout.proofs.Told.{part_end}
use Rattle.table_gates.proofs.find_memory.Goals as goal

pub slice_bounds-find_memory-end : goal.slice_bounds-find_memory-end
slice_bounds-find_memory-end c = part_end c.requires (lit≤ tt)

pub returns : goal.returns
unfolding view_table
returns c = c.find_memory.ensures
