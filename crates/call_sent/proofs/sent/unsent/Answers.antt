-- `call_sent::sent::unsent` meets its contract.
use Rattle.std.proofs.Common.{sym, ◌∙◌}
use Rattle.lib_laws.specs.Place.{place_within}
use Rattle.call_sent.specs.Install.{unsent_at, unsent_none}
use Rattle.call_sent.proofs.sent.unsent.Goals as goal

pub mark_unsent-requires : goal.mark_unsent-requires
mark_unsent-requires c = record { fit_table = c.requires; i_in_bounds = place_within _ _ _ (sym c.find_leg.ensures ∙ c.in-Some.is) }

pub returns-in-Some : goal.returns-in-Some
returns-in-Some c = unsent_at _ _ _ (sym c.find_leg.ensures ∙ c.in-Some.is) c.mark_unsent.ensures

pub returns-in_default : goal.returns-in_default
returns-in_default c = unsent_none _ _ (sym c.find_leg.ensures ∙ c.in_default.is) c.requires
