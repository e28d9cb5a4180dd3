-- `table_gates::stamp` meets its contract.
use lib.Dec.{lit≤}
use Rattle.table_layout.specs.View.{view_table}
use Rattle.table_layout.proofs.Told.{part_end, told_gates, gates_room}
use Rattle.table_gates.proofs.stamp.Goals as goal

pub slice_bounds-stamp-end : goal.slice_bounds-stamp-end
slice_bounds-stamp-end c = part_end c.requires.fit_table (lit≤ tt)

pub stamp-requires : goal.stamp-requires
unfolding view_table
stamp-requires c = record { fit_gates = c.requires.fit_table.gates; ascending = c.requires.ascending; room = gates_room _ c.requires.fit_table c.requires.room }

pub returns : goal.returns
unfolding view_table
returns c = told_gates c.requires.fit_table c.stamp.ensures.fit_gates_2 c.stamp.ensures.s_after
