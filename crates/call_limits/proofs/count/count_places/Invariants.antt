-- `call_limits::count::count_places` meets its contract.
use Rattle.table_layout.specs.View.{view_table}
use Rattle.call_limits.specs.Count.{held_from, Tallied}
use Rattle.call_limits.proofs.count.count_places.Given as goal

abbrev pub invariant-loop-i : goal.invariant-loop-i
invariant-loop-i l = Tallied (held_from (view_table l.t)) l.initial.k l.i l.k
