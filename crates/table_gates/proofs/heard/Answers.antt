-- `table_gates::heard` meets its contract.
use lib.Dec.{lit≤}
use Rattle.table_layout.specs.View.{view_table}
use Rattle.table_layout.proofs.Told.{part_end, told_gates}
use Rattle.table_gates.proofs.heard.Goals as goal

pub slice_bounds-heard-end : goal.slice_bounds-heard-end
slice_bounds-heard-end c = part_end c.requires.fit_table (lit≤ tt)

pub heard-requires : goal.heard-requires
unfolding view_table
heard-requires c = record { fit_gates = c.requires.fit_table.gates; ascending = c.requires.ascending }

pub returns : goal.returns
unfolding view_table
returns c = told_gates c.requires.fit_table c.heard.ensures.fit_gates_2 c.heard.ensures.s_after
