use mathlib.Core.Path.{sym, ◌∙◌}
use Rattle.call_contract.specs.Loop.{doing_start}
use Rattle.call_poll.specs.Poll.{reap_end, reap_within, reap_space, reap_turn, reap_less}
use Rattle.call_poll.proofs.poll.reap.Goals as goal

pub loop-i-init : goal.loop-i-init
loop-i-init c = doing_start _ c.requires.ready c.requires.space

pub find_overdue-requires : goal.find_overdue-requires
find_overdue-requires c = c.loop-i.invariant.ready.fit

pub returns : goal.returns
returns c = reap_end _ c.loop-i.invariant (sym c.find_overdue.ensures ∙ c.in_default.is)

pub end_leg-e-requires : goal.end_leg-e-requires
end_leg-e-requires c =
    let e = (sym c.find_overdue.ensures ∙ c.in-Some.is) in
    record { fit_table = c.loop-i.invariant.ready.fit; i_in_bounds = reap_within _ c.loop-i.invariant e; space = reap_space _ c.loop-i.invariant e }

pub loop-i-smaller : goal.loop-i-smaller
loop-i-smaller c = reap_less _ c.loop-i.invariant (sym c.find_overdue.ensures ∙ c.in-Some.is) c.end_leg-e.ensures

pub loop-i-preserved : goal.loop-i-preserved
loop-i-preserved c = reap_turn _ c.loop-i.invariant (sym c.find_overdue.ensures ∙ c.in-Some.is) c.end_leg-e.ensures
