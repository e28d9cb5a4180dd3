-- `call_msg2::msg2` meets its contract.
use Rattle.std.proofs.Common.{sym, ◌∙◌}
use Rattle.lib_laws.specs.Cell.{mapped_some, mapped_none}
use Rattle.lib_laws.specs.Place.{place_within}
use Rattle.call_msg2.specs.Msg2.{msg2_nowhere, msg2_answers, msg2_unnamed}
use Rattle.call_msg2.proofs.msg2.Goals as goal

pub returns-in_default : goal.returns-in_default
returns-in_default c = msg2_nowhere _ _ _ _ _ c.requires.space c.requires.ready.fit (sym c.find_leg.ensures ∙ c.in_default.is)

pub leg_answers-requires : goal.leg_answers-requires
leg_answers-requires c = record { fit_table = c.requires.ready.fit; i_in_bounds = place_within _ _ _ (sym c.find_leg.ensures ∙ c.in-Some.is) }

pub returns-then-leg_answers : goal.returns-then-leg_answers
returns-then-leg_answers c = msg2_answers _ _ _ _ _ c.requires.space c.requires.ready.fit _ (sym c.find_leg.ensures ∙ c.in-Some.is) (sym c.leg_answers.ensures ∙ c.if-leg_answers.true)

pub leg_peer-requires : goal.leg_peer-requires
leg_peer-requires c = record { fit_table = c.requires.ready.fit; i_in_bounds = place_within _ _ _ (sym c.find_leg.ensures ∙ c.in-Some.is) }

pub returns-in_default-leg_peer : goal.returns-in_default-leg_peer
returns-in_default-leg_peer c =
    msg2_unnamed _ _ _ _ _ c.requires.space c.requires.ready.fit _ (sym c.find_leg.ensures ∙ c.in-Some.is) (sym c.leg_answers.ensures ∙ c.if-leg_answers.false) (mapped_none _ c.leg_peer.ensures c.in_default-leg_peer.is)

pub complete-requires : goal.complete-requires
complete-requires c = record {
  ready = c.requires.ready;
  t_value = sym c.find_leg.ensures ∙ c.in-Some.is;
  i_value = sym c.leg_answers.ensures ∙ c.if-leg_answers.false;
  named = mapped_some _ c.leg_peer.ensures c.in-Some-leg_peer.is;
  space = c.requires.space;
}
