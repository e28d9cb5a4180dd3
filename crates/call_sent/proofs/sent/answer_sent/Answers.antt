-- `call_sent::sent::answer_sent` meets its contract.
use Rattle.std.proofs.Common.{sym, ap, ◌∙◌}
use Rattle.rules.specs.Base.{is}
use Rattle.lib_laws.specs.Cell.{mapped_some, mapped_none}
use Rattle.lib_laws.specs.Place.{place_within}
use Rattle.call_contract.specs.Did.{space_is, did_is}
use Rattle.call_sent.specs.Sent.{sent_unnamed, sent_marked, sent_linkless, sent_promotes, leg_own}
use Rattle.call_sent.proofs.sent.answer_sent.Goals as goal

pub leg_peer-requires : goal.leg_peer-requires
leg_peer-requires c = record { fit_table = c.requires.ready.fit; i_in_bounds = place_within _ _ _ c.requires.t_value }

pub returns-in_default : goal.returns-in_default
returns-in_default c = sent_unnamed _ _ _ c.requires.space _ c.requires.t_value c.requires.i_value c.requires.ready.fit (mapped_none _ c.leg_peer.ensures c.in_default.is)

pub mark_sent-requires : goal.mark_sent-requires
mark_sent-requires c = record { fit_table = c.requires.ready.fit; i_in_bounds = place_within _ _ _ c.requires.t_value }

pub returns-then-is_some : goal.returns-then-is_some
returns-then-is_some c = sent_marked _ _ _ c.requires.space _ c.requires.t_value c.requires.i_value (mapped_some _ c.leg_peer.ensures c.in-Some.is) c.find_held.ensures (sym c.is_some.ensures ∙ c.if-is_some.true) c.mark_sent.ensures

pub returns-in_default-find_link : goal.returns-in_default-find_link
returns-in_default-find_link c =
    sent_linkless _ _ _ c.requires.space _ c.requires.t_value c.requires.i_value (mapped_some _ c.leg_peer.ensures c.in-Some.is) c.find_held.ensures (sym c.is_some.ensures ∙ c.if-is_some.false) c.requires.ready.fit (sym c.find_link.ensures ∙ c.in_default-find_link.is)

pub promote-requires : goal.promote-requires
promote-requires c =
    let f = mapped_some _ c.leg_peer.ensures c.in-Some.is in
    let l = sym c.find_link.ensures ∙ c.in-Some-find_link.is in
    let e = sent_promotes _ _ _ c.requires.space _ c.requires.t_value c.requires.i_value f c.find_held.ensures (sym c.is_some.ensures ∙ c.if-is_some.false) _ l in
    record { ready = c.requires.ready; i_in_bounds = place_within _ _ _ c.requires.t_value; t_value = leg_own _ _ _ c.requires.t_value; i_value = ap is f; j_in_bounds = place_within _ _ _ l; space = space_is c.requires.space e }

pub returns : goal.returns
returns c =
    let f = mapped_some _ c.leg_peer.ensures c.in-Some.is in
    let l = sym c.find_link.ensures ∙ c.in-Some-find_link.is in
    did_is c.promote.ensures (sym (sent_promotes _ _ _ c.requires.space _ c.requires.t_value c.requires.i_value f c.find_held.ensures (sym c.is_some.ensures ∙ c.if-is_some.false) _ l))
