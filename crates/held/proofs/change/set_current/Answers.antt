use Rattle.held.specs.Change.{current_kept, current_changed}
use Rattle.node_addr.specs.View.{view_pair}
use borrow.Author.Rules.{rules}
use mathlib.Core.Path.{sym, ◌∙◌}
use Rattle.held.proofs.change.set_current.Goals as goal

pub returns-then-current_is : goal.returns-then-current_is
returns-then-current_is c = current_kept c.args.i (view_pair c.args.p) c.requires.fit_held (sym c.current_is.ensures ∙ c.if-current_is.true)

pub returns : goal.returns
returns c = current_changed _ c.args.p c.put_pair.ensures c.requires.fit_held c.requires.i_bound (search rules)
