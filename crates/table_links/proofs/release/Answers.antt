-- `table_links::release` meets its contract.
use lib.Dec.{lit≤}
use Rattle.table_layout.specs.View.{view_table}
use Rattle.table_layout.proofs.Told.{part_end, told_links}
use Rattle.table_links.proofs.release.Goals as goal

pub slice_bounds-release-end : goal.slice_bounds-release-end
slice_bounds-release-end c = part_end c.requires.fit_table (lit≤ tt)

pub returns : goal.returns
unfolding view_table
returns c = record { told = told_links c.requires.fit_table c.release.ensures.fit_links_2 c.release.ensures.s_after; else_value = c.release.ensures.else_value }
