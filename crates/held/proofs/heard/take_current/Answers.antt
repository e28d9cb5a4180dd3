use Rattle.held.specs.Change.{current_kept, current_changed}
use mathlib.Core.Path.{sym, ◌∙◌}
use borrow.Author.Rules.{rules}
use Rattle.held.proofs.heard.take_current.Goals as goal

pub returns-then-stays : goal.returns-then-stays
returns-then-stays c = current_kept _ _ c.requires.fit_held (sym c.requires.stays_value ∙ c.if-stays.true)

pub returns : goal.returns
returns c = rw c.load_wire_pair-p.ensures at (current_changed _ _ c.put_pair.ensures c.requires.fit_held c.requires.i_bound (search rules))
