-- `legs::stored::stored` meets its contract.
use Rattle.legs.specs.Stored.{link_at, yield_of, reach, Reaching, Looking}
use Rattle.legs_entry.specs.View.{view_legs}
use Rattle.links_entry.specs.View.{view_links}
use Rattle.node_addr.specs.Place.{pair_here}
use Rattle.rules.specs.Settle.{stored_on, stored_in}
use Rattle.std.specs.Prelude.{◌≡◌, None}
use lib.ListN.{take, drop}
use Rattle.legs.proofs.stored.stored.Given as goal

abbrev pub invariant-loop-j : goal.invariant-loop-j
invariant-loop-j l =
    Reaching (stored_on (pair_here (drop l.from l.rec)) (take l.n (drop l.at l.rec)) (view_legs l.legs) (link_at l.links l.i)) (yield_of (take l.n (drop l.at l.rec)) (view_legs l.legs) (link_at l.links l.i).no) l.f l.legs (reach (pair_here (drop l.from l.rec)) (link_at l.links l.i)) l.j-end l.j
    × (l.found ≡ None)

abbrev pub invariant-search : goal.invariant-search
invariant-search l =
    Looking (stored_in (pair_here (drop l.from l.rec)) (take l.n (drop l.at l.rec)) (view_legs l.legs) (view_links l.links)) (pair_here (drop l.from l.rec)) (take l.n (drop l.at l.rec)) (view_legs l.legs) (view_links l.links) l.i × (l.found ≡ None)
