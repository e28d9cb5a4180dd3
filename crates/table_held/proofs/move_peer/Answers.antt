-- `table_held::move_peer` meets its contract.
use lib.Dec.{lit≤}
use Rattle.table_layout.specs.View.{view_table}
use Rattle.table_layout.proofs.Told.{part_end, told_held}
use Rattle.table_held.proofs.move_peer.Goals as goal

pub slice_bounds-move_peer-end : goal.slice_bounds-move_peer-end
slice_bounds-move_peer-end c = part_end c.requires.fit_table (lit≤ tt)

pub returns : goal.returns
unfolding view_table
returns c = told_held c.requires.fit_table c.move_peer.ensures.fit_held_2 c.move_peer.ensures.s_after
