-- `table_held::hear_at` meets its contract.
use lib.Dec.{lit≤}
use Rattle.table_layout.specs.View.{view_table}
use Rattle.table_layout.proofs.Told.{part_end, held_in_lem, told_held}
use Rattle.table_held.proofs.hear_at.Goals as goal

pub slice_bounds-hear_at-end : goal.slice_bounds-hear_at-end
slice_bounds-hear_at-end c = part_end c.requires.fit_table (lit≤ tt)

pub hear_at-requires : goal.hear_at-requires
hear_at-requires c = record { fit_held = c.requires.fit_table.held; i_bound = held_in_lem c.requires.fit_table c.requires.i_in_bounds; pair_in = c.requires.pair_in }

pub returns : goal.returns
unfolding view_table
returns c = record { told = told_held c.requires.fit_table c.hear_at.ensures.fit_held_2 c.hear_at.ensures.s_after; value = c.hear_at.ensures.value }
