use Rattle.std.proofs.Common.{sym, ◌∙◌, rules}
use native.Mathlib.Omega.{arith}
use Rattle.table_layout.proofs.Told.{next_place}
use Rattle.call_poll.specs.Poll.{resending_start, resend_later, resend_within, resend_room, resend_turn, resend_end}
use Rattle.call_poll.proofs.poll.resend_due.Goals as goal

pub loop-i-init : goal.loop-i-init
loop-i-init c = resending_start c.requires.space

pub find_resend-requires : goal.find_resend-requires
find_resend-requires c = record { fit_table = c.requires.fit_table; from_in_bounds = c.loop-i.invariant.within }

pub returns : goal.returns
returns c = resend_end c.loop-i.invariant (sym c.find_resend.ensures ∙ c.in_default.is)

pub leg_link-requires : goal.leg_link-requires
leg_link-requires c = record { fit_table = c.requires.fit_table; i_in_bounds = resend_within c.loop-i.invariant (sym c.find_resend.ensures ∙ c.in-Some.is) }

pub leg_msg1-m-requires : goal.leg_msg1-m-requires
leg_msg1-m-requires c = record { fit_table = c.requires.fit_table; i_in_bounds = resend_within c.loop-i.invariant (sym c.find_resend.ensures ∙ c.in-Some.is) }

pub put_resend-e-requires : goal.put_resend-e-requires
put_resend-e-requires c = record { len_bound = c.leg_msg1-m.ensures.len_bound; in_bounds = resend_room c.loop-i.invariant (sym c.find_resend.ensures ∙ c.in-Some.is) c.leg_msg1-m.ensures.value }

pub overflow_add-from : goal.overflow_add-from
overflow_add-from c = next_place c.requires.fit_table (resend_within c.loop-i.invariant (sym c.find_resend.ensures ∙ c.in-Some.is))

pub loop-i-smaller : goal.loop-i-smaller
loop-i-smaller c =
    let e = (sym c.find_resend.ensures ∙ c.in-Some.is) in
    omega (arith, resend_later c.loop-i.invariant e, resend_within c.loop-i.invariant e)

pub loop-i-preserved : goal.loop-i-preserved
loop-i-preserved c = resend_turn c.loop-i.invariant (sym c.find_resend.ensures ∙ c.in-Some.is) c.leg_msg1-m.ensures.value c.leg_link.ensures c.put_resend-e.ensures
