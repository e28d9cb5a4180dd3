-- `table_legs::open::set_next` meets its contract.
use lib.Dec.{lit≤}
use Rattle.table_layout.specs.View.{view_table}
use Rattle.table_layout.proofs.Told.{part_end, told_next}
use Rattle.table_legs.proofs.open.set_next.Goals as goal

pub slice_bounds-put_next-end : goal.slice_bounds-put_next-end
slice_bounds-put_next-end c = part_end c.requires (lit≤ tt)

pub returns : goal.returns
unfolding view_table
returns c = told_next c.requires c.put_next.ensures.fit_head c.put_next.ensures.shows
