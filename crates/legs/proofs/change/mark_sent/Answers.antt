-- `legs::change::mark_sent` meets its contract.
use Rattle.legs.specs.Change.{marked_sent}
use borrow.Author.Rules.{rules}
use Rattle.lib_laws.specs.Both.{both}
use Rattle.legs.proofs.change.mark_sent.Goals as goal

pub returns : goal.returns
returns c = both (λ a b. record { fit_legs_2 = a; s_after = b }) (marked_sent _ _ c.put_byte.ensures (search rules) (search rules) c.get_byte-b.ensures)
