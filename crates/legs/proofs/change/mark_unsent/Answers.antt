-- `legs::change::mark_unsent` meets its contract.
use Rattle.legs.specs.Change.{marked_unsent}
use borrow.Author.Rules.{rules}
use Rattle.lib_laws.specs.Both.{both}
use Rattle.legs.proofs.change.mark_unsent.Goals as goal

pub returns : goal.returns
returns c = both (λ a b. record { fit_legs_2 = a; s_after = b }) (marked_unsent _ c.put_byte.ensures (search rules) (search rules))
