-- `call_heard::peer::heard` meets its contract.
use mathlib.Core.Path.{sym, ◌∙◌}
use Rattle.lib_laws.specs.Place.{place_within}
use Rattle.call_heard.specs.Peer.{heard_still, stays_did, roams_room, roams_did, gates_stay}
use borrow.Author.Rules.{rules}
use Rattle.call_heard.proofs.peer.heard.Goals as goal

pub returns-in_default : goal.returns-in_default
returns-in_default c = heard_still _ _ _ c.requires.fit_table c.requires.space (sym c.find_held.ensures ∙ c.in_default.is)

pub hear_at-stays-requires : goal.hear_at-stays-requires
hear_at-stays-requires c = record { fit_table = c.requires.fit_table; i_in_bounds = place_within _ _ _ (sym c.find_held.ensures ∙ c.in-Some.is); pair_in = c.requires.pair_in }

pub heard-requires : goal.heard-requires
heard-requires c = record { fit_table = c.hear_at-stays.ensures.told.fit; ascending = gates_stay c.hear_at-stays.ensures.told c.requires.ascending }

pub returns-then-stays : goal.returns-then-stays
returns-then-stays c = stays_did _ _ _ _ c.requires.space (sym c.find_held.ensures ∙ c.in-Some.is) c.hear_at-stays.ensures.value c.if-stays.true c.hear_at-stays.ensures.told c.heard.ensures

pub put_reset-requires : goal.put_reset-requires
put_reset-requires c = roams_room _ _ _ _ c.requires.space (search (rules, c.well_formed.1.1.1.0)) (sym c.find_held.ensures ∙ c.in-Some.is) c.hear_at-stays.ensures.value c.if-stays.false

pub shape_of-t : goal.shape_of-t
shape_of-t c = c.heard.ensures.fit.size ∙ sym c.requires.fit_table.size

pub returns : goal.returns
returns c = roams_did _ _ _ _ (sym c.find_held.ensures ∙ c.in-Some.is) c.hear_at-stays.ensures.value c.if-stays.false c.hear_at-stays.ensures.told c.heard.ensures c.put_reset.ensures
