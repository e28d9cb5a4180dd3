use Rattle.std.proofs.Common.{sym, ◌∙◌}
use Rattle.params.specs.View.{view_params}
use Rattle.gates_types.specs.View.{view_silence}
use Rattle.gates_silence.specs.Silences.{count_quiet, count_same, count_expired, count_other}
use Rattle.gates_silence.proofs.counting.Goals as goal
use Rattle.gates_silence.proofs.counting.Goals.{in_default-via-in-Some+then-not-expired+else-unwrap_or-epoch, in_default-via-in-Some+else-not-expired, in_default-via-in_default}

pub returns-in-Some-clause-result_value : goal.returns-in-Some-clause-result_value
returns-in-Some-clause-result_value c =
    rw c.in-Some.is
    (count_same (view_params c.args.c) c.args.clock c.args.epoch (view_silence c.in-Some.r) (sym c.expired.ensures ∙ c.if-not-expired.true) (sym c.unwrap_or.ensures ∙ c.if-unwrap_or-epoch.true))

pub returns-in_default-clause-result_value : goal.returns-in_default-clause-result_value
returns-in_default-clause-result_value c =
    c.new_silence.ensures.result_value ∙ elim c.in_default.branch [
      | in_default-via-in-Some+then-not-expired+else-unwrap_or-epoch w ↦
          rw w.in-Some.is
          (count_other (view_params c.args.c) c.args.clock c.args.epoch (view_silence w.in-Some.r) (sym w.expired.ensures ∙ w.if-not-expired.true) (λ e. w.if-unwrap_or-epoch.false (w.unwrap_or.ensures ∙ e)))
      | in_default-via-in-Some+else-not-expired w ↦ rw w.in-Some.is (count_expired (view_params c.args.c) c.args.clock c.args.epoch (view_silence w.in-Some.r) (sym w.expired.ensures ∙ w.if-not-expired.false))
      | in_default-via-in_default w ↦ rw w.in_default.is (count_quiet (view_params c.args.c) c.args.clock c.args.epoch)
    ]
