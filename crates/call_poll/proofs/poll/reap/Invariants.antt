-- `call_poll::poll::reap` meets its contract.
use lib.ListN.{length}
use Rattle.table_layout.specs.View.{view_table}
use Rattle.call_contract.specs.Loop.{Doing}
use Rattle.call_poll.specs.Poll.{reaps}
use Rattle.call_poll.proofs.poll.reap.Given as goal

abbrev pub invariant-loop-i : goal.invariant-loop-i
invariant-loop-i l = Doing l.initial.out l.at (reaps l.clock (view_table l.initial.t)) l.t l.out l.e (reaps l.clock (view_table l.t))

abbrev pub decreases-loop-i : goal.decreases-loop-i
decreases-loop-i l = length (view_table l.t).legs
