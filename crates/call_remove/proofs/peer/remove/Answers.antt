-- `call_remove::peer::remove` meets its contract.
use mathlib.Core.Path.{sym, ◌∙◌}
use Rattle.lib_laws.specs.Place.{find_at, place_within}
use Rattle.call_contract.specs.Did.{space_is, did_is, did_still, puts_length}
use Rattle.call_remove.specs.Peer.{remove_at, remove_none}
use Rattle.call_remove.proofs.peer.remove.Goals as goal

pub remove_at-requires : goal.remove_at-requires
remove_at-requires c =
    let e = (sym c.find_held.ensures ∙ c.in-Some.is) in
    record { ready = c.requires.ready; i_in_bounds = place_within _ _ _ e; t_value = find_at _ _ _ e _; space = space_is c.requires.space (remove_at _ _ _ _ _ e) }

pub shape_of-t-in-Some : goal.shape_of-t-in-Some
shape_of-t-in-Some c = c.remove_at.ensures.table.fit.size ∙ sym c.requires.ready.fit.size

pub shape_of-out : goal.shape_of-out
shape_of-out c = puts_length c.remove_at.ensures.puts

pub returns-in-Some : goal.returns-in-Some
returns-in-Some c = did_is c.remove_at.ensures (sym (remove_at _ _ _ _ _ (sym c.find_held.ensures ∙ c.in-Some.is)))

pub returns-in-None : goal.returns-in-None
returns-in-None c =
    let e = remove_none _ _ _ _ (sym c.find_held.ensures ∙ c.in-None.is) in
    did_is (did_still c.requires.ready.fit (space_is c.requires.space e)) (sym e)
