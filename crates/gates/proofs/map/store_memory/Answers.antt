use mathlib.Core.Path.{refl, sym, ◌∙◌}
use Rattle.rules.specs.Gates.{memory_of}
use Rattle.lib_laws.specs.Store.{entry_within}
use Rattle.gates_types.specs.View.{view_memory}
use Rattle.gates_entry.specs.View.{entry_of, view_gates}
use Rattle.gates.specs.Order.{stored_at, stored_new}
use Rattle.gates.proofs.map.store_memory.Goals as goal

pub replace_memory-requires-clause-i_bound : goal.replace_memory-requires-clause-i_bound
replace_memory-requires-clause-i_bound c = entry_within entry_of c.requires.fit_gates (memory_of c.args.m.peer.0) _ (sym c.in-Some.ensures)

pub add_memory-requires-clause-s_bound : goal.add_memory-requires-clause-s_bound
add_memory-requires-clause-s_bound c = c.requires.room_for.room (sym c.in-None.ensures)

pub returns-in-Some-clause-s_after : goal.returns-in-Some-clause-s_after
returns-in-Some-clause-s_after c = c.replace_memory.ensures.s_after ∙ stored_at (view_memory c.args.m) (view_gates c.args.s.now) _ refl c.requires.ascending (sym c.in-Some.ensures)

pub returns-in-None-clause-s_after : goal.returns-in-None-clause-s_after
returns-in-None-clause-s_after c = c.add_memory.ensures.s_after ∙ stored_new (view_memory c.args.m) (view_gates c.args.s.now) refl (sym c.in-None.ensures)
