-- `table_links::link_proven` meets its contract.
use lib.Dec.{lit≤}
use Rattle.table_layout.specs.View.{view_table}
use Rattle.table_layout.proofs.Told.{part_end, link_in}
use Rattle.table_links.proofs.link_proven.Goals as goal

pub slice_bounds-proven_at-end : goal.slice_bounds-proven_at-end
slice_bounds-proven_at-end c = part_end c.requires.fit_table (lit≤ tt)

pub proven_at-requires : goal.proven_at-requires
proven_at-requires c = record { fit_links = c.requires.fit_table.links; i_bound = link_in c.requires.fit_table c.requires.i_in_bounds }

pub returns : goal.returns
unfolding view_table
returns c = c.proven_at.ensures
