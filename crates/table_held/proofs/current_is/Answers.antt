-- `table_held::current_is` meets its contract.
use lib.Dec.{lit≤}
use Rattle.table_layout.specs.View.{view_table}
use Rattle.table_layout.proofs.Told.{part_end, held_in_lem}
use Rattle.table_held.proofs.current_is.Goals as goal

pub slice_bounds-current_is-end : goal.slice_bounds-current_is-end
slice_bounds-current_is-end c = part_end c.requires.fit_table (lit≤ tt)

pub current_is-requires : goal.current_is-requires
current_is-requires c = record { fit_held = c.requires.fit_table.held; i_bound = held_in_lem c.requires.fit_table c.requires.i_in_bounds }

pub returns : goal.returns
unfolding view_table
returns c = c.current_is.ensures
