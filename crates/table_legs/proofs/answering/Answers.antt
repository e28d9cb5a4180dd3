-- `table_legs::answering` meets its contract.
use lib.Dec.{lit≤}
use Rattle.table_layout.specs.View.{view_table}
use Rattle.table_layout.proofs.Told.{part_end}
use Rattle.table_legs.proofs.answering.Goals as goal

pub slice_bounds-answering-end : goal.slice_bounds-answering-end
slice_bounds-answering-end c = part_end c.requires (lit≤ tt)

pub returns : goal.returns
unfolding view_table
returns c = c.answering.ensures
