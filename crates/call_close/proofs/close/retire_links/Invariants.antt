-- `call_close::close::retire_links` meets its contract.
use Rattle.table_layout.specs.View.{view_table}
use Rattle.call_close.specs.Close.{Retiring}
use Rattle.call_close.proofs.close.retire_links.Given as goal

abbrev pub invariant-loop-i : goal.invariant-loop-i
invariant-loop-i l = Retiring (view_table l.initial.t) l.initial.out l.at l.n l.t l.out l.e l.count l.i
