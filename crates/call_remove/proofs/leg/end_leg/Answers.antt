-- `call_remove::leg::end_leg` meets its contract.
use mathlib.Core.Path.{sym, ◌∙◌}
use Rattle.call_contract.specs.Did.{wrote_length}
use Rattle.call_remove.specs.Leg.{ends_free, ends_retire, ends_did}
use Rattle.call_remove.proofs.leg.end_leg.Goals as goal

pub put_free-a-requires : goal.put_free-a-requires
put_free-a-requires c = ends_free _ _ c.requires.space

pub drop_leg-requires : goal.drop_leg-requires
drop_leg-requires c = c.requires.fit_table

pub retire_link-c-requires : goal.retire_link-c-requires
retire_link-c-requires c = c.drop_leg.ensures.fit

pub put_retire-requires : goal.put_retire-requires
put_retire-requires c = ends_retire _ _ c.leg_link-n.ensures c.leg_lease-lease.ensures c.requires.space c.put_free-a.ensures c.drop_leg.ensures c.retire_link-c.ensures.result_value

pub shape_of-t : goal.shape_of-t
shape_of-t c = c.retire_link-c.ensures.told.fit.size ∙ sym c.requires.fit_table.size

pub shape_of-out : goal.shape_of-out
shape_of-out c = wrote_length c.put_retire.ensures ∙ wrote_length c.put_free-a.ensures

pub returns : goal.returns
returns c = ends_did _ _ c.leg_link-n.ensures c.leg_lease-lease.ensures c.put_free-a.ensures c.drop_leg.ensures c.retire_link-c.ensures.told c.retire_link-c.ensures.result_value c.put_retire.ensures
