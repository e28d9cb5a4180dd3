use Rattle.held.specs.Change.{heard_changed}
use borrow.Author.Rules.{rules}
use Rattle.held.proofs.change.set_heard.Goals as goal

pub returns : goal.returns
returns c = heard_changed _ _ c.put_flag.ensures (search rules) (search rules)
