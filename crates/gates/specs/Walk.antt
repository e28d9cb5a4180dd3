-- How many memories there are, and those that a memory comes before.
use Rattle.std.specs.Prelude.{◌≡◌, Bool, length}
use Rattle.rules.specs.Base.{Bytes}
use Rattle.rules.specs.Std.{before}
use Rattle.rules.specs.Data.{Memory}
use Rattle.lib_laws.specs.Store.{entries_count}
use Rattle.gates_entry.specs.View.{entry_of, view_gates, FitGates, gate_count}

pub count_is : {s : Bytes} → FitGates s → length (view_gates s) ≡ gate_count s
count_is f = entries_count entry_of f

-- those that a memory of p comes before
abbrev pub after : Bytes → Memory → Bool
after p m = before p m.peer
