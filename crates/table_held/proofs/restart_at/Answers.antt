-- `table_held::restart_at` meets its contract.
use lib.Dec.{lit≤}
use Rattle.table_layout.specs.View.{view_table}
use Rattle.table_layout.proofs.Told.{part_end, held_in_lem, told_held}
use Rattle.table_held.proofs.restart_at.Goals as goal

pub slice_bounds-set_epoch-end : goal.slice_bounds-set_epoch-end
slice_bounds-set_epoch-end c = part_end c.requires.fit_table (lit≤ tt)

pub set_epoch-requires : goal.set_epoch-requires
set_epoch-requires c = record { fit_held = c.requires.fit_table.held; i_bound = held_in_lem c.requires.fit_table c.requires.i_in_bounds }

pub returns : goal.returns
unfolding view_table
returns c = told_held c.requires.fit_table c.set_epoch.ensures.fit_held_2 c.set_epoch.ensures.s_after
