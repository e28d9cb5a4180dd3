-- `call_close::close::remove_all` meets its contract.
use Rattle.table_layout.specs.View.{view_table}
use Rattle.call_close.specs.Remove.{empties, Emptying}
use Rattle.call_close.proofs.close.remove_all.Given as goal

abbrev pub invariant-loop : goal.invariant-loop
invariant-loop l = Emptying l.clock l.initial.out l.at (empties l.clock (view_table l.initial.t)) l.t l.out l.e l.n l.counter
