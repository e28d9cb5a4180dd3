-- `table_gates::ended` meets its contract.
use lib.Dec.{lit≤}
use Rattle.table_layout.specs.View.{view_table}
use Rattle.table_layout.proofs.Told.{part_end, told_gates, gates_room}
use Rattle.table_gates.proofs.ended.Goals as goal

pub slice_bounds-ended-end : goal.slice_bounds-ended-end
slice_bounds-ended-end c = part_end c.requires.fit_table (lit≤ tt)

pub ended-requires : goal.ended-requires
unfolding view_table
ended-requires c = record { fit_gates = c.requires.fit_table.gates; ascending = c.requires.ascending; all = c.requires.all; fit_params = c.requires.fit_params; room = gates_room _ c.requires.fit_table c.requires.room }

pub returns : goal.returns
unfolding view_table
returns c = told_gates c.requires.fit_table c.ended.ensures.fit_gates_2 c.ended.ensures.s_after
