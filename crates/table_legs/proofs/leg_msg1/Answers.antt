-- `table_legs::leg_msg1` meets its contract.
use lib.Dec.{lit≤}
use Rattle.table_layout.specs.View.{view_table}
use Rattle.table_layout.proofs.Told.{part_end, leg_in, leg_small, entry_fits, cell_fits, place_fits}
use Rattle.table_legs.proofs.Run.{stands_run}
use Rattle.table_legs.proofs.leg_msg1.Goals as goal

pub slice_bounds-msg1_len_at-end : goal.slice_bounds-msg1_len_at-end
slice_bounds-msg1_len_at-end c = part_end c.requires.fit_table (lit≤ tt)

pub msg1_len_at-len-requires : goal.msg1_len_at-len-requires
msg1_len_at-len-requires c = record { fit_legs = c.requires.fit_table.legs; i_bound = leg_in c.requires.fit_table c.requires.i_in_bounds }

pub overflow_mul-at : goal.overflow_mul-at
overflow_mul-at c = entry_fits _ (leg_small c.requires.fit_table c.requires.i_in_bounds)

pub overflow_add-at : goal.overflow_add-at
overflow_add-at c = cell_fits _ 94 (leg_small c.requires.fit_table c.requires.i_in_bounds) (lit≤ tt)

pub overflow_add-at-2 : goal.overflow_add-at-2
overflow_add-at-2 c = place_fits _ 94 (leg_small c.requires.fit_table c.requires.i_in_bounds) (lit≤ tt)

pub returns-clause-value : goal.returns-clause-value
unfolding view_table
returns-clause-value c = stands_run c.requires.fit_table c.msg1_len_at-len.ensures
