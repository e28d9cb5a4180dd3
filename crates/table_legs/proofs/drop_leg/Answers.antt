-- `table_legs::drop_leg` meets its contract.
use lib.Dec.{lit≤}
use Rattle.table_layout.specs.View.{view_table}
use Rattle.table_layout.proofs.Told.{part_end, told_legs}
use Rattle.table_legs.proofs.drop_leg.Goals as goal

pub slice_bounds-drop_leg-end : goal.slice_bounds-drop_leg-end
slice_bounds-drop_leg-end c = part_end c.requires (lit≤ tt)

pub returns : goal.returns
unfolding view_table
returns c = told_legs c.requires c.drop_leg.ensures.fit_legs c.drop_leg.ensures.s_after
