use Rattle.held.specs.Change.{link_changed}
use borrow.Author.Rules.{rules}
use Rattle.held.proofs.change.set_link.Goals as goal

pub returns : goal.returns
returns c = link_changed _ c.put_be.ensures (search rules) (search rules) (search rules)
