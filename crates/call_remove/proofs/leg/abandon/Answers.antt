-- `call_remove::leg::abandon` meets its contract.
use mathlib.Core.Path.{sym, ◌∙◌}
use Rattle.lib_laws.specs.Place.{place_within}
use Rattle.call_contract.specs.Did.{space_is, did_is, did_still, puts_length}
use Rattle.call_remove.specs.Leg.{abandon_at, abandon_none}
use Rattle.call_remove.proofs.leg.abandon.Goals as goal

pub end_leg-requires : goal.end_leg-requires
end_leg-requires c =
    let e = (sym c.find_leg.ensures ∙ c.in-Some.is) in
    record { fit_table = c.requires.fit_table; i_in_bounds = place_within _ _ _ e; space = space_is c.requires.space (abandon_at _ _ _ e) }

pub shape_of-t-in-Some : goal.shape_of-t-in-Some
shape_of-t-in-Some c = c.end_leg.ensures.table.fit.size ∙ sym c.requires.fit_table.size

pub shape_of-out : goal.shape_of-out
shape_of-out c = puts_length c.end_leg.ensures.puts

pub returns-in-Some : goal.returns-in-Some
returns-in-Some c = did_is c.end_leg.ensures (sym (abandon_at _ _ _ (sym c.find_leg.ensures ∙ c.in-Some.is)))

pub returns-in-None : goal.returns-in-None
returns-in-None c =
    let e = abandon_none _ _ (sym c.find_leg.ensures ∙ c.in-None.is) in
    did_is (did_still c.requires.fit_table (space_is c.requires.space e)) (sym e)
