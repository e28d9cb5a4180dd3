use mathlib.Core.Path.{sym, ◌∙◌}
use borrow.Author.Rules.{rules}
use Rattle.lib_laws.specs.Store.{removed_is}
use Rattle.gates_entry.specs.View.{entry_of, fit_zeros}
use Rattle.gates.specs.Put.{put_over}
use Rattle.lib_laws.specs.Both.{both}
use Rattle.gates.proofs.map.replace_memory.Goals as goal

pub returns-then-remembers : goal.returns-then-remembers
returns-then-remembers c = rw (sym c.remembers.ensures ∙ c.if-remembers.true) (both (λ a b. record { fit_gates_2 = a; s_after = b }) (put_over c.args.m c.requires.fit_memory (search rules) c.requires.fit_gates c.args.i c.requires.i_bound c.put_memory.ensures))

pub returns-else-remembers : goal.returns-else-remembers
returns-else-remembers c = rw (sym c.remembers.ensures ∙ c.if-remembers.false) (both (λ a b. record { fit_gates_2 = a; s_after = b }) (removed_is entry_of c.requires.fit_gates c.requires.i_bound fit_zeros c.remove_chunk.ensures))
