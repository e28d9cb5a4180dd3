-- `table_gates::promoted` meets its contract.
use lib.Dec.{lit≤}
use Rattle.table_layout.specs.View.{view_table}
use Rattle.table_layout.proofs.Told.{part_end, told_gates, gates_room}
use Rattle.table_gates.proofs.promoted.Goals as goal

pub slice_bounds-promoted-end : goal.slice_bounds-promoted-end
slice_bounds-promoted-end c = part_end c.requires.fit_table (lit≤ tt)

pub promoted-requires : goal.promoted-requires
unfolding view_table
promoted-requires c = record { fit_gates = c.requires.fit_table.gates; ascending = c.requires.ascending; fit_params = c.requires.fit_params; room = gates_room _ c.requires.fit_table c.requires.room }

pub returns : goal.returns
unfolding view_table
returns c = told_gates c.requires.fit_table c.promoted.ensures.fit_gates_2 c.promoted.ensures.s_after
