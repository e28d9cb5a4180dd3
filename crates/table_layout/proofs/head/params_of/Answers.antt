-- `table_layout::head::params_of` meets its contract.
use lib.Dec.{lit≤}
use Rattle.table_layout.specs.View.{view_table}
use Rattle.table_layout.proofs.Told.{part_end}
use Rattle.table_layout.proofs.head.params_of.Goals as goal

pub slice_bounds-load_params-end : goal.slice_bounds-load_params-end
slice_bounds-load_params-end c = part_end c.requires (lit≤ tt)

pub returns : goal.returns
unfolding view_table
returns c = c.load_params.ensures
