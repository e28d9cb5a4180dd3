use mathlib.Core.Path.{sym, ◌∙◌}
use native.Mathlib.Omega.{arith}
use Rattle.params.specs.View.{view_params}
use Rattle.gates_judge.specs.Replays.{passing_start, passing_hit, passing_live, passing_old, passing_full, passing_end}
use Rattle.gates_judge.proofs.replayed.Goals as goal
use Rattle.gates_judge.proofs.replayed.Goals.{then-younger+else-replay_is, else-younger}

pub loop-j-init : goal.loop-j-init
loop-j-init c = passing_start (view_params c.args.c) c.args.clock c.args.digest.0 c.args.s.now c.args.i c.replay_count_at-n.result c.requires.fit_gates c.requires.i_bound c.replay_count_at-n.ensures

pub returns-then-replay_is : goal.returns-then-replay_is
returns-then-replay_is c = passing_hit c.loop-j.invariant (omega arith) (rw (← c.seen_at.ensures) (sym c.younger.ensures ∙ c.if-younger.true)) (sym c.replay_is.ensures ∙ c.if-replay_is.true)

pub loop-j-preserved : goal.loop-j-preserved
loop-j-preserved c =
    elim c.if-younger.branch [
      | then-younger+else-replay_is w ↦ rw w.live-is (passing_live c.loop-j.invariant (omega arith) (rw (← c.seen_at.ensures) (sym c.younger.ensures ∙ w.if-younger.true)) (sym w.replay_is.ensures ∙ w.if-replay_is.false))
      | else-younger w ↦ rw w.live-is (passing_old c.loop-j.invariant (omega arith) (rw (← c.seen_at.ensures) (sym c.younger.ensures ∙ w.if-younger.false)))
    ]

pub returns-then-c-live : goal.returns-then-c-live
returns-then-c-live c = passing_full c.loop-j.invariant (omega arith) (omega arith)

pub returns : goal.returns
returns c = passing_end c.loop-j.invariant (omega arith) (omega arith)
