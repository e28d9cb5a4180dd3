-- `table_gates::judged` meets its contract.
use lib.Dec.{lit≤}
use Rattle.table_layout.specs.View.{view_table}
use Rattle.table_layout.proofs.Told.{part_end}
use Rattle.table_gates.proofs.judged.Goals as goal

pub slice_bounds-judged-end : goal.slice_bounds-judged-end
slice_bounds-judged-end c = part_end c.requires.fit_table (lit≤ tt)

pub judged-requires : goal.judged-requires
unfolding view_table
judged-requires c = record { fit_gates = c.requires.fit_table.gates; place_in = c.requires.place_in }

pub returns : goal.returns
unfolding view_table
returns c = c.judged.ensures
