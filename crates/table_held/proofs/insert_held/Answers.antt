-- `table_held::insert_held` meets its contract.
use lib.Dec.{lit≤}
use Rattle.table_layout.specs.View.{view_table}
use Rattle.table_layout.proofs.Told.{part_end, told_held, held_room}
use Rattle.table_held.proofs.insert_held.Goals as goal

pub slice_bounds-insert_held-end : goal.slice_bounds-insert_held-end
slice_bounds-insert_held-end c = part_end c.requires.fit_table (lit≤ tt)

pub insert_held-requires : goal.insert_held-requires
insert_held-requires c = record { fit_held = c.requires.fit_table.held; s_bound = held_room c.requires.fit_table c.requires.t_len_bound }

pub returns : goal.returns
unfolding view_table
returns c = told_held c.requires.fit_table c.insert_held.ensures.fit_held_2 c.insert_held.ensures.s_after
