use mathlib.Core.Path.{sym, ◌∙◌}
use Rattle.gates_entry.specs.View.{view_gates, no_memory}
use Rattle.gates.specs.Order.{kept_still}
use Rattle.gates.proofs.calls.clear_memory.Goals as goal

pub returns-else-not-is_still-clause-s_after : goal.returns-else-not-is_still-clause-s_after
returns-else-not-is_still-clause-s_after c = kept_still (view_gates c.args.s.now) c.args.i no_memory (sym c.is_still.ensures ∙ c.if-not-is_still.false)
