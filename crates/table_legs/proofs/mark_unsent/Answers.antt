-- `table_legs::mark_unsent` meets its contract.
use lib.Dec.{lit≤}
use Rattle.table_layout.specs.View.{view_table}
use Rattle.table_layout.proofs.Told.{part_end, told_legs, leg_in}
use Rattle.table_legs.proofs.mark_unsent.Goals as goal

pub slice_bounds-mark_unsent-end : goal.slice_bounds-mark_unsent-end
slice_bounds-mark_unsent-end c = part_end c.requires.fit_table (lit≤ tt)

pub mark_unsent-requires : goal.mark_unsent-requires
mark_unsent-requires c = record { fit_legs = c.requires.fit_table.legs; i_bound = leg_in c.requires.fit_table c.requires.i_in_bounds }

pub returns : goal.returns
unfolding view_table
returns c = told_legs c.requires.fit_table c.mark_unsent.ensures.fit_legs_2 c.mark_unsent.ensures.s_after
