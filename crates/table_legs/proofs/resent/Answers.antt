-- `table_legs::resent` meets its contract.
use lib.Dec.{lit≤}
use Rattle.table_layout.specs.View.{view_table}
use Rattle.table_layout.proofs.Told.{part_end, told_legs, leg_in}
use Rattle.table_legs.proofs.resent.Goals as goal

pub slice_bounds-resent_at-end : goal.slice_bounds-resent_at-end
slice_bounds-resent_at-end c = part_end c.requires.fit_table (lit≤ tt)

pub resent_at-requires : goal.resent_at-requires
resent_at-requires c = record { fit_legs = c.requires.fit_table.legs; i_bound = leg_in c.requires.fit_table c.requires.i_in_bounds }

pub returns : goal.returns
unfolding view_table
returns c = told_legs c.requires.fit_table c.resent_at.ensures.fit_legs_2 c.resent_at.ensures.s_after
