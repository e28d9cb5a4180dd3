-- `call_limits::named::leg_names` meets its contract.
use lib.ListN.{drop}
use Rattle.rules.specs.Base.{same, any}
use Rattle.rules.specs.Settle.{leg_peers}
use Rattle.table_layout.specs.View.{view_table}
use Rattle.call_limits.specs.Count.{Asking}
use Rattle.call_limits.proofs.named.leg_names.Given as goal

abbrev pub invariant-loop-i : goal.invariant-loop-i
invariant-loop-i l = Asking (any (same l.peer.0) (leg_peers (drop l.initial.i (view_table l.t).legs))) l.peer.0 (view_table l.t).legs l.i
