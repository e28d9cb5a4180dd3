-- `call_msg2::dialed` meets its contract.
use Rattle.lib_laws.specs.Buffer.{kept_length}
use Rattle.node_addr.proofs.Filled.{kept_padded}
use Rattle.call_msg2.specs.Dialed.{dialed_install, dialed_reset, dialed_did}
use borrow.Author.Rules.{rules}
use Rattle.call_msg2.proofs.dialed.Goals as goal

pub put_install-a-requires : goal.put_install-a-requires
put_install-a-requires c = dialed_install _ _ _ _ _ _ _ c.leg_link-n.ensures c.leg_lease-lease.ensures c.requires.space (search rules) (kept_length (kept_padded c.args.from.addr))

pub put_reset-r-requires : goal.put_reset-r-requires
put_reset-r-requires c = dialed_reset _ _ _ _ _ _ _ c.leg_link-n.ensures c.leg_lease-lease.ensures c.requires.space (search rules) c.put_install-a.ensures

pub returns : goal.returns
returns c = dialed_did _ _ _ _ _ _ _ c.leg_link-n.ensures c.leg_lease-lease.ensures c.put_install-a.ensures c.put_reset-r.ensures c.install.ensures
