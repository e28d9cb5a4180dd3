-- `table_legs::leg_peer` meets its contract.
use lib.Dec.{lit≤}
use Rattle.table_layout.specs.View.{view_table}
use Rattle.table_layout.proofs.Told.{part_end, leg_in}
use Rattle.table_legs.proofs.leg_peer.Goals as goal

pub slice_bounds-peer_at-end : goal.slice_bounds-peer_at-end
slice_bounds-peer_at-end c = part_end c.requires.fit_table (lit≤ tt)

pub peer_at-requires : goal.peer_at-requires
peer_at-requires c = record { fit_legs = c.requires.fit_table.legs; i_bound = leg_in c.requires.fit_table c.requires.i_in_bounds }

pub returns : goal.returns
unfolding view_table
returns c = c.peer_at.ensures
