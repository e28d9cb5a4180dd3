-- `table_links::hold_link` meets its contract.
use lib.Dec.{lit≤}
use Rattle.table_layout.specs.View.{view_table}
use Rattle.table_layout.proofs.Told.{part_end, told_links}
use Rattle.table_links.proofs.hold_link.Goals as goal

pub slice_bounds-hold_link-end : goal.slice_bounds-hold_link-end
slice_bounds-hold_link-end c = part_end c.requires (lit≤ tt)

pub returns : goal.returns
unfolding view_table
returns c = told_links c.requires c.hold_link.ensures.fit_links c.hold_link.ensures.s_after
