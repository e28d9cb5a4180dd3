-- `call_close::close::free_all` meets its contract.
use Rattle.std.specs.Prelude.{length}
use Rattle.table_layout.specs.View.{view_table}
use Rattle.call_close.specs.Close.{Freeing}
use Rattle.call_close.proofs.close.free_all.Given as goal

abbrev pub invariant-loop-i : goal.invariant-loop-i
invariant-loop-i l = Freeing l.initial.out l.at (view_table l.t).legs (length (view_table l.t).legs) l.out l.e l.i
