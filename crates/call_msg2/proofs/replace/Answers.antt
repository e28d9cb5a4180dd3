-- `call_msg2::replace` meets its contract.
use Rattle.call_msg2.specs.Msg2.{gone_leg, gone_room, replaced_removes, replaced_dials, replaced_did}
use Rattle.call_msg2.proofs.replace.Goals as goal

pub remove_at-a-requires : goal.remove_at-a-requires
remove_at-a-requires c = record { ready = c.requires.ready; i_in_bounds = c.requires.k_in_bounds; t_value = c.requires.t_value; space = replaced_removes _ _ _ _ _ _ _ c.requires.space }

pub dialed-requires : goal.dialed-requires
dialed-requires c = record { fit_table = c.remove_at-a.ensures.table.fit; i_in_bounds = gone_leg _ _ _ _ c.remove_at-a.ensures _ c.requires.i_in_bounds; t_len_bound = gone_room _ _ _ _ c.remove_at-a.ensures c.requires.ready.sound c.requires.t_value; space = replaced_dials _ _ _ _ _ _ _ c.remove_at-a.ensures c.requires.space }

pub returns : goal.returns
returns c = replaced_did _ _ _ _ _ _ _ c.remove_at-a.ensures c.dialed.ensures
