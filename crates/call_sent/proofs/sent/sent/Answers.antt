-- `call_sent::sent::sent` meets its contract.
use Rattle.std.proofs.Common.{sym, ◌∙◌}
use Rattle.lib_laws.specs.Place.{place_within}
use Rattle.call_sent.specs.Sent.{sent_nowhere, sent_counted}
use Rattle.call_sent.proofs.sent.sent.Goals as goal

pub returns-in_default : goal.returns-in_default
returns-in_default c = sent_nowhere _ _ _ c.requires.space c.requires.ready.fit (sym c.find_leg.ensures ∙ c.in_default.is)

pub leg_answers-requires : goal.leg_answers-requires
leg_answers-requires c = record { fit_table = c.requires.ready.fit; i_in_bounds = place_within _ _ _ (sym c.find_leg.ensures ∙ c.in-Some.is) }

pub answer_sent-requires : goal.answer_sent-requires
answer_sent-requires c = record { ready = c.requires.ready; t_value = sym c.find_leg.ensures ∙ c.in-Some.is; i_value = sym c.leg_answers.ensures ∙ c.if-leg_answers.true; space = c.requires.space }

pub resent-requires : goal.resent-requires
resent-requires c = record { fit_table = c.requires.ready.fit; i_in_bounds = place_within _ _ _ (sym c.find_leg.ensures ∙ c.in-Some.is) }

pub returns : goal.returns
returns c = sent_counted _ _ _ c.requires.space _ (sym c.find_leg.ensures ∙ c.in-Some.is) c.leg_answers.ensures c.if-leg_answers.false c.params_of-c.ensures c.resent.ensures
