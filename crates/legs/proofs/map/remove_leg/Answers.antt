-- `legs::map::remove_leg` meets its contract.
use Rattle.legs_entry.specs.View.{leg_of, fit_zeros}
use Rattle.lib_laws.specs.Store.{removed_is}
use borrow.Author.Rules.{rules}
use Rattle.lib_laws.specs.Both.{both}
use Rattle.legs.proofs.map.remove_leg.Goals as goal

pub returns : goal.returns
returns c = both (λ a b. record { fit_legs_2 = a; s_after = b }) (removed_is leg_of (search rules) (search rules) fit_zeros c.remove_chunk.ensures)
