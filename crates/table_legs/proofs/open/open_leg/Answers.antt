-- `table_legs::open::open_leg` meets its contract.
use mathlib.Core.Path.{sym, ◌∙◌}
use Rattle.table_layout.proofs.Told.{next_fits, still_room, told_joined}
use Rattle.table_legs.proofs.open.open_leg.Goals as goal

pub add_leg-requires : goal.add_leg-requires
add_leg-requires c = record { fit_table = c.add_link.ensures.fit; t_len_bound = still_room c.add_link.ensures c.requires.t_len_bound_2 }

pub overflow_add-n : goal.overflow_add-n
overflow_add-n c = next_fits c.next_no-n.ensures c.requires.t_bound

pub set_next-requires : goal.set_next-requires
set_next-requires c = c.add_leg.ensures.fit

pub shape_of-t : goal.shape_of-t
shape_of-t c = c.set_next.ensures.fit.size ∙ sym c.requires.fit_table.size

pub returns : goal.returns
returns c = told_joined _ _ _ _ c.next_no-n.ensures c.add_link.ensures c.add_leg.ensures c.set_next.ensures
