-- `legs::stored::yielding` meets its contract.
use Rattle.legs.specs.Stored.{found_within, yields_none, yields_not, yields_at}
use mathlib.Core.List.{[]}
use mathlib.Core.Path.{◌∙◌, sym}
use Rattle.legs.proofs.stored.yielding.Goals as goal

pub returns-in_err-i : goal.returns-in_err-i
returns-in_err-i c = rw c.from_residual.ensures (yields_none c.requires.fit_legs _ _ (sym c.find_leg.ensures ∙ c.in_err-i.was))

pub stored_at-requires-clause-i_bound : goal.stored_at-requires-clause-i_bound
stored_at-requires-clause-i_bound c = found_within c.requires.fit_legs [] _ (sym c.find_leg.ensures ∙ c.in_ok-i.was)

pub returns-then-stored_at : goal.returns-then-stored_at
returns-then-stored_at c = yields_at c.requires.fit_legs _ _ (sym c.find_leg.ensures ∙ c.in_ok-i.was) (sym c.stored_at.ensures ∙ c.if-stored_at.true)

pub returns-else-stored_at : goal.returns-else-stored_at
returns-else-stored_at c = yields_not c.requires.fit_legs _ _ (sym c.find_leg.ensures ∙ c.in_ok-i.was) (sym c.stored_at.ensures ∙ c.if-stored_at.false)
