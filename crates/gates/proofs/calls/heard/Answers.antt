use mathlib.Core.Path.{sym, ◌∙◌}
use Rattle.rules.specs.Gates.{memory_of}
use Rattle.lib_laws.specs.Store.{entry_within}
use Rattle.gates_entry.specs.View.{entry_of, view_gates, no_memory}
use Rattle.gates.specs.Order.{heard_found, store_blank}
use Rattle.gates.proofs.calls.heard.Goals as goal

pub clear_memory-requires-clause-i_bound : goal.clear_memory-requires-clause-i_bound
clear_memory-requires-clause-i_bound c = entry_within entry_of c.requires.fit_gates (memory_of c.args.peer.0) _ (sym c.in-Some.ensures)

pub returns-in-Some-clause-s_after : goal.returns-in-Some-clause-s_after
returns-in-Some-clause-s_after c = c.clear_memory.ensures.s_after ∙ heard_found c.args.peer.0 (view_gates c.args.s.now) _ no_memory c.requires.ascending (sym c.in-Some.ensures)

pub returns-in_default-clause-s_after : goal.returns-in_default-clause-s_after
returns-in_default-clause-s_after c = store_blank c.args.peer.0 (view_gates c.args.s.now) (sym c.find_memory.ensures ∙ c.in_default.is)
