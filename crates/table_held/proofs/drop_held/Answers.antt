-- `table_held::drop_held` meets its contract.
use lib.Dec.{lit≤}
use Rattle.table_layout.specs.View.{view_table}
use Rattle.table_layout.proofs.Told.{part_end, told_held}
use Rattle.table_held.proofs.drop_held.Goals as goal

pub slice_bounds-drop_held-end : goal.slice_bounds-drop_held-end
slice_bounds-drop_held-end c = part_end c.requires (lit≤ tt)

pub returns : goal.returns
unfolding view_table
returns c = told_held c.requires c.drop_held.ensures.fit_held c.drop_held.ensures.s_after
