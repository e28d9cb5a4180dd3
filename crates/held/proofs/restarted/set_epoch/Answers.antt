use Rattle.held.specs.Change.{epoch_changed}
use borrow.Author.Rules.{rules}
use Rattle.lib_laws.specs.Both.{both}
use Rattle.held.proofs.restarted.set_epoch.Goals as goal

pub returns : goal.returns
returns c = both (λ a b. record { fit_held_2 = a; s_after = b }) (epoch_changed _ c.put_be.ensures (search rules) (search rules) (search rules))
