-- `table_links::find_link` meets its contract.
use lib.Dec.{lit≤}
use Rattle.table_layout.specs.View.{view_table}
use Rattle.table_layout.proofs.Told.{part_end}
use Rattle.table_links.proofs.find_link.Goals as goal

pub slice_bounds-find_link-end : goal.slice_bounds-find_link-end
slice_bounds-find_link-end c = part_end c.requires (lit≤ tt)

pub returns : goal.returns
unfolding view_table
returns c = c.find_link.ensures
