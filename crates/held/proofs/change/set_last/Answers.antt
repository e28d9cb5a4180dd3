use Rattle.held.specs.Change.{last_changed}
use borrow.Author.Rules.{rules}
use Rattle.held.proofs.change.set_last.Goals as goal

pub returns : goal.returns
returns c = last_changed _ c.put_option.ensures (search rules) (search rules) (search rules)
