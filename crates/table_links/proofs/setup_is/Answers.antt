-- `table_links::setup_is` meets its contract.
use lib.Dec.{lit≤}
use Rattle.table_layout.specs.View.{view_table}
use Rattle.table_layout.proofs.Told.{part_end, link_in}
use Rattle.table_links.proofs.setup_is.Goals as goal

pub slice_bounds-setup_is-end : goal.slice_bounds-setup_is-end
slice_bounds-setup_is-end c = part_end c.requires.fit_table (lit≤ tt)

pub setup_is-requires : goal.setup_is-requires
setup_is-requires c = record { fit_links = c.requires.fit_table.links; i_bound = link_in c.requires.fit_table c.requires.i_in_bounds }

pub returns : goal.returns
unfolding view_table
returns c = c.setup_is.ensures
