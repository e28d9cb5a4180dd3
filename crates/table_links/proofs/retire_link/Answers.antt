-- `table_links::retire_link` meets its contract.
use lib.Dec.{lit≤}
use Rattle.table_layout.specs.View.{view_table}
use Rattle.table_layout.proofs.Told.{part_end, told_links}
use Rattle.table_links.proofs.retire_link.Goals as goal

pub slice_bounds-retire-end : goal.slice_bounds-retire-end
slice_bounds-retire-end c = part_end c.requires (lit≤ tt)

pub returns : goal.returns
unfolding view_table
returns c = record { told = told_links c.requires c.retire.ensures.fit_links c.retire.ensures.s_after; result_value = c.retire.ensures.result_value }
