use mathlib.Core.Path.{sym, ◌∙◌}
use Rattle.std.proofs.Common.{ap}
use Rattle.rules.specs.Gates.{memory_of}
use Rattle.lib_laws.specs.Store.{entry_within}
use Rattle.gates_types.specs.View.{view_memory}
use Rattle.gates_entry.specs.View.{entry_of, view_gates, no_memory}
use Rattle.gates.specs.Order.{memory_at, memory_none}
use Rattle.gates.proofs.map.memory_of.Goals as goal

pub get_memory-requires-clause-i_bound : goal.get_memory-requires-clause-i_bound
get_memory-requires-clause-i_bound c = entry_within entry_of c.requires (memory_of c.args.peer.0) _ (sym c.in-Some.ensures)

pub returns-in-Some-clause-result_value : goal.returns-in-Some-clause-result_value
returns-in-Some-clause-result_value c = c.get_memory.ensures.result_value ∙ memory_at c.args.peer.0 (view_gates c.args.s.now) _ no_memory (sym c.in-Some.ensures)

pub returns-in-None-clause-result_value : goal.returns-in-None-clause-result_value
returns-in-None-clause-result_value c = ap view_memory c.blank_memory.ensures ∙ memory_none c.args.peer.0 (view_gates c.args.s.now) (sym c.in-None.ensures)
