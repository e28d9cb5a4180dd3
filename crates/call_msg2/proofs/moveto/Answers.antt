-- `call_msg2::moveto` meets its contract.
use Rattle.lib_laws.specs.Buffer.{kept_length}
use Rattle.node_addr.proofs.Filled.{kept_padded}
use Rattle.call_msg2.specs.Dialed.{moveto_install, moveto_reset, moveto_retire, moveto_did}
use borrow.Author.Rules.{rules}
use Rattle.call_msg2.proofs.moveto.Goals as goal

pub put_install-a-requires : goal.put_install-a-requires
put_install-a-requires c = moveto_install _ _ _ _ _ c.leg_link-n.ensures c.leg_lease-lease.ensures c.held_link-old.ensures c.requires.space (search rules) (kept_length (kept_padded c.args.from.addr))

pub put_reset-b-requires : goal.put_reset-b-requires
put_reset-b-requires c = moveto_reset _ _ _ _ _ c.leg_link-n.ensures c.leg_lease-lease.ensures c.held_link-old.ensures c.requires.space c.put_install-a.ensures (search rules)

pub put_retire-requires : goal.put_retire-requires
put_retire-requires c = moveto_retire _ _ _ _ _ c.leg_link-n.ensures c.leg_lease-lease.ensures c.held_link-old.ensures c.requires.space c.put_install-a.ensures c.put_reset-b.ensures c.drop_leg.ensures c.hold_link.ensures c.retire_link-c.ensures.result_value

pub returns : goal.returns
returns c =
    moveto_did _ _ _ _ _ c.leg_link-n.ensures c.leg_lease-lease.ensures c.held_link-old.ensures c.requires.space c.put_install-a.ensures c.put_reset-b.ensures c.drop_leg.ensures c.hold_link.ensures
    c.retire_link-c.ensures.result_value c.retire_link-c.ensures.told c.move_peer.ensures c.put_retire.ensures
