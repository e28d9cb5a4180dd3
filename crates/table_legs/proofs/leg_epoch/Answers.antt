-- `table_legs::leg_epoch` meets its contract.
use lib.Dec.{lit≤}
use Rattle.table_layout.specs.View.{view_table}
use Rattle.table_layout.proofs.Told.{part_end, leg_in}
use Rattle.table_legs.proofs.leg_epoch.Goals as goal

pub slice_bounds-epoch_at-end : goal.slice_bounds-epoch_at-end
slice_bounds-epoch_at-end c = part_end c.requires.fit_table (lit≤ tt)

pub epoch_at-requires : goal.epoch_at-requires
epoch_at-requires c = record { fit_legs = c.requires.fit_table.legs; i_bound = leg_in c.requires.fit_table c.requires.i_in_bounds }

pub returns : goal.returns
unfolding view_table
returns c = c.epoch_at.ensures
