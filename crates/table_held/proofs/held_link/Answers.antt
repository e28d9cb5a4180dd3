-- `table_held::held_link` meets its contract.
use lib.Dec.{lit≤}
use Rattle.table_layout.specs.View.{view_table}
use Rattle.table_layout.proofs.Told.{part_end, held_in_lem}
use Rattle.table_held.proofs.held_link.Goals as goal

pub slice_bounds-link_at-end : goal.slice_bounds-link_at-end
slice_bounds-link_at-end c = part_end c.requires.fit_table (lit≤ tt)

pub link_at-requires : goal.link_at-requires
link_at-requires c = record { fit_held = c.requires.fit_table.held; i_bound = held_in_lem c.requires.fit_table c.requires.i_in_bounds }

pub returns : goal.returns
unfolding view_table
returns c = c.link_at.ensures
