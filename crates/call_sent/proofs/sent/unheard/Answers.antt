-- `call_sent::sent::unheard` meets its contract.
use Rattle.call_sent.specs.Sent.{unheard_is}
use borrow.Author.Rules.{rules}
use Rattle.call_sent.proofs.sent.unheard.Goals as goal

pub returns : goal.returns
returns c = unheard_is c.leg_link.ensures c.leg_epoch.ensures c.leg_digest.ensures c.link_setup.ensures.result_value (search rules)
