-- `call_heard::peer::restarted` meets its contract.
use Rattle.std.proofs.Common.{sym, ◌∙◌}
use Rattle.lib_laws.specs.Place.{place_within}
use Rattle.call_heard.specs.Peer.{restarted_still, restarted_room, restarted_did}
use borrow.Author.Rules.{rules}
use Rattle.call_heard.proofs.peer.restarted.Goals as goal

pub returns-in_default : goal.returns-in_default
returns-in_default c = restarted_still _ _ c.requires.fit_table c.requires.space (sym c.find_held.ensures ∙ c.in_default.is)

pub restart_at-requires : goal.restart_at-requires
restart_at-requires c = record { fit_table = c.requires.fit_table; i_in_bounds = place_within _ _ _ (sym c.find_held.ensures ∙ c.in-Some.is) }

pub put_reset-requires : goal.put_reset-requires
put_reset-requires c = restarted_room _ _ _ c.requires.space (search rules) (sym c.find_held.ensures ∙ c.in-Some.is)

pub returns : goal.returns
returns c = restarted_did _ _ _ (sym c.find_held.ensures ∙ c.in-Some.is) c.restart_at.ensures c.put_reset.ensures
