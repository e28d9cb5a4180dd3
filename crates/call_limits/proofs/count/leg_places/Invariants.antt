-- `call_limits::count::leg_places` meets its contract.
use Rattle.table_layout.specs.View.{view_table}
use Rattle.call_limits.specs.Count.{places_from, Tallied}
use Rattle.call_limits.proofs.count.leg_places.Given as goal

abbrev pub invariant-loop-i : goal.invariant-loop-i
invariant-loop-i l = Tallied (places_from (view_table l.t)) l.initial.k l.i l.k
