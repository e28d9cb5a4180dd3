-- `legs::map::drop_leg` meets its contract.
use Rattle.legs.specs.Stored.{found_within}
use Rattle.rules.specs.Legs.{on_link}
use Rattle.lib_laws.specs.Place.{without_at, without_nowhere}
use mathlib.Core.List.{[]}
use mathlib.Core.Path.{◌∙◌, sym}
use borrow.Author.Rules.{rules}
use Rattle.legs.proofs.map.drop_leg.Goals as goal

pub remove_leg-requires : goal.remove_leg-requires
remove_leg-requires c = record { fit_legs = search rules; i_bound = found_within c.requires [] _ (sym c.find_leg.ensures ∙ c.in-Some.is) }

pub returns-in-Some : goal.returns-in-Some
returns-in-Some c = record { fit_legs = c.remove_leg.ensures.fit_legs_2; s_after = c.remove_leg.ensures.s_after ∙ sym (without_at (on_link _) _ _ (sym c.find_leg.ensures ∙ c.in-Some.is)) }

pub returns-in_default-clause-s_after : goal.returns-in_default-clause-s_after
returns-in_default-clause-s_after c = sym (without_nowhere (on_link _) _ (sym c.find_leg.ensures ∙ c.in_default.is))
