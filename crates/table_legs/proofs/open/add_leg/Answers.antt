-- `table_legs::open::add_leg` meets its contract.
use lib.Dec.{lit≤}
use Rattle.table_layout.specs.View.{view_table}
use Rattle.table_layout.proofs.Told.{part_end, told_legs, leg_room}
use Rattle.table_legs.proofs.open.add_leg.Goals as goal

pub slice_bounds-push_leg-end : goal.slice_bounds-push_leg-end
slice_bounds-push_leg-end c = part_end c.requires.fit_table (lit≤ tt)

pub push_leg-requires : goal.push_leg-requires
push_leg-requires c = record { fit_legs = c.requires.fit_table.legs; s_bound = leg_room c.requires.fit_table c.requires.t_len_bound }

pub returns : goal.returns
unfolding view_table
returns c = told_legs c.requires.fit_table c.push_leg.ensures.fit_legs_2 c.push_leg.ensures.s_after
