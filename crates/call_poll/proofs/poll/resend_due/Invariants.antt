-- `call_poll::poll::resend_due` meets its contract.
use Prim.Native.Nat.{◌-◌}
use lib.ListN.{length}
use Rattle.table_layout.specs.View.{view_table}
use Rattle.call_poll.specs.Poll.{Resending}
use Rattle.call_poll.proofs.poll.resend_due.Given as goal

abbrev pub invariant-loop-i : goal.invariant-loop-i
invariant-loop-i l = Resending l.initial.out l.at l.clock (view_table l.t).legs l.out l.e l.from

abbrev pub decreases-loop-i : goal.decreases-loop-i
decreases-loop-i l = length (view_table l.t).legs - l.from
