-- `legs::map::leg_count` meets its contract.
use Rattle.legs.specs.Walk.{count_is}
use mathlib.Core.Path.{sym, ◌∙◌}
use Rattle.legs.proofs.map.leg_count.Goals as goal

pub returns : goal.returns
returns c = record { value = c.count.ensures; value_2 = c.count.ensures ∙ sym (count_is c.requires) }
