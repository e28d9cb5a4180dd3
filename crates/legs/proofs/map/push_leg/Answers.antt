-- `legs::map::push_leg` meets its contract.
use Rattle.legs_entry.specs.Entry.{fit_bytes, leg_bytes_lem}
use Rattle.legs_entry.specs.View.{leg_of}
use Rattle.lib_laws.specs.Store.{pushed_is}
use borrow.Author.Rules.{rules}
use Rattle.lib_laws.specs.Both.{both}
use Rattle.legs.proofs.map.push_leg.Goals as goal

pub returns : goal.returns
returns c = both (λ a b. record { fit_legs_2 = a; s_after = b }) (pushed_is leg_of (search rules) (search rules) c.put_leg.ensures (fit_bytes _ (search rules)) (leg_bytes_lem _ (search rules) (search rules)))
