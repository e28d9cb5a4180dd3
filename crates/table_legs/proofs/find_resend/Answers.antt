-- `table_legs::find_resend` meets its contract.
use lib.Dec.{lit≤}
use Rattle.table_layout.specs.View.{view_table}
use Rattle.table_layout.proofs.Told.{part_end, leg_to}
use Rattle.table_legs.proofs.find_resend.Goals as goal

pub slice_bounds-find_resend-end : goal.slice_bounds-find_resend-end
slice_bounds-find_resend-end c = part_end c.requires.fit_table (lit≤ tt)

pub find_resend-requires : goal.find_resend-requires
find_resend-requires c = record { fit_legs = c.requires.fit_table.legs; from_bound = leg_to c.requires.fit_table c.requires.from_in_bounds }

pub returns : goal.returns
unfolding view_table
returns c = c.find_resend.ensures
