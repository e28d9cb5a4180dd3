-- `table_gates::silenced_for` meets its contract.
use lib.Dec.{lit≤}
use Rattle.table_layout.specs.View.{view_table}
use Rattle.table_layout.proofs.Told.{part_end}
use Rattle.table_gates.proofs.silenced_for.Goals as goal

pub slice_bounds-silenced_for-end : goal.slice_bounds-silenced_for-end
slice_bounds-silenced_for-end c = part_end c.requires.fit_table (lit≤ tt)

pub silenced_for-requires : goal.silenced_for-requires
unfolding view_table
silenced_for-requires c = record { fit_gates = c.requires.fit_table.gates; place_in = c.requires.place_in }

pub returns : goal.returns
unfolding view_table
returns c = c.silenced_for.ensures
