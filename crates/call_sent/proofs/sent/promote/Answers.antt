-- `call_sent::sent::promote` meets its contract.
use Rattle.lib_laws.specs.Cell.{mapped_some}
use Rattle.table_layout.proofs.Told.{fit_params}
use Rattle.call_contract.specs.Sound.{gates_ordered}
use Rattle.call_sent.specs.Sent.{names_one, promote_install, promote_reset, promote_did, promote_memory, promote_room}
use Rattle.call_sent.proofs.sent.promote.Goals as goal

pub unwrap-peer-requires : goal.unwrap-peer-requires
unwrap-peer-requires c = names_one _ _ c.leg_peer.ensures c.requires.i_value

pub put_install-a-requires : goal.put_install-a-requires
put_install-a-requires c = promote_install _ _ _ _ _ (mapped_some _ c.leg_peer.ensures c.unwrap-peer.ensures) c.unheard-h.ensures c.leg_digest-digest.ensures c.leg_lease-lease.ensures c.params_of-c.ensures c.leg_replaces.ensures c.made-how.ensures c.requires.space

pub put_reset-r-requires : goal.put_reset-r-requires
put_reset-r-requires c = promote_reset _ _ _ _ _ (mapped_some _ c.leg_peer.ensures c.unwrap-peer.ensures) c.unheard-h.ensures c.leg_digest-digest.ensures c.leg_lease-lease.ensures c.params_of-c.ensures c.leg_replaces.ensures c.made-how.ensures c.requires.space c.put_install-a.ensures

pub promoted-requires : goal.promoted-requires
promoted-requires c = record { fit_table = c.requires.ready.fit; ascending = gates_ordered c.requires.ready.sound; fit_params = fit_params _ c.requires.ready.fit c.params_of-c.ensures; room = promote_memory _ c.requires.ready.sound _ c.requires.t_value (mapped_some _ c.leg_peer.ensures c.unwrap-peer.ensures) }

pub install-requires : goal.install-requires
install-requires c = record { fit_table = c.promoted.ensures.fit; t_len_bound = promote_room _ c.requires.ready.sound _ c.requires.t_value c.promoted.ensures }

pub returns : goal.returns
returns c = promote_did _ _ _ _ _ (mapped_some _ c.leg_peer.ensures c.unwrap-peer.ensures) c.unheard-h.ensures c.leg_digest-digest.ensures c.leg_lease-lease.ensures c.params_of-c.ensures c.leg_replaces.ensures c.made-how.ensures c.put_install-a.ensures c.put_reset-r.ensures c.promoted.ensures c.install.ensures
