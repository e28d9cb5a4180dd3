-- `table_legs::open::add_link` meets its contract.
use lib.Dec.{lit≤}
use Rattle.table_layout.specs.View.{view_table}
use Rattle.table_layout.proofs.Told.{part_end, told_links, link_room}
use Rattle.table_legs.proofs.open.add_link.Goals as goal

pub slice_bounds-open_link-end : goal.slice_bounds-open_link-end
slice_bounds-open_link-end c = part_end c.requires.fit_table (lit≤ tt)

pub open_link-requires : goal.open_link-requires
open_link-requires c = record { fit_links = c.requires.fit_table.links; s_bound = link_room c.requires.fit_table c.requires.t_len_bound }

pub returns : goal.returns
unfolding view_table
returns c = told_links c.requires.fit_table c.open_link.ensures.fit_links_2 c.open_link.ensures.s_after
