-- `table_query::stored` meets its contract.
use lib.Dec.{lit≤}
use Rattle.rules.specs.Settle as settle
use Rattle.table_layout.specs.View.{view_table}
use Rattle.table_layout.proofs.Told.{part_end}
use Rattle.table_query.specs.Ask.{yields_whole}
use Rattle.table_query.proofs.stored.Goals as goal

pub slice_bounds-stored-end : goal.slice_bounds-stored-end
slice_bounds-stored-end c = part_end c.requires.fit_table (lit≤ tt)

pub slice_bounds-stored-end-2 : goal.slice_bounds-stored-end-2
slice_bounds-stored-end-2 c = part_end c.requires.fit_table (lit≤ tt)

pub stored-requires : goal.stored-requires
stored-requires c = record { fit_links = c.requires.fit_table.links; fit_legs = c.requires.fit_table.legs; pair_in = c.requires.pair_in; n_in_bounds = c.requires.n_in_bounds }

pub returns : goal.returns
unfolding view_table settle.stored
returns c = yields_whole _ c.requires.fit_table c.stored.ensures
