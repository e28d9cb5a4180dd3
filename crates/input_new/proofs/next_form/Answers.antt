use Rattle.input_new.proofs.Begin.{form_none, form_default, form_settings}
use Rattle.input_new.proofs.next_form.Goals as goal

pub returns-in_err-code : goal.returns-in_err-code
returns-in_err-code c = rw c.from_residual.ensures (form_none c.in_err-code.ensures.took)

pub returns-then-branch-eq0 : goal.returns-then-branch-eq0
returns-then-branch-eq0 c = form_default c.in_ok-code.ensures.took c.if-branch-eq0.true c.default.ensures

pub returns : goal.returns
returns c = form_settings c.in_ok-code.ensures.took c.in_ok-code.ensures.value_lt_k c.if-branch-eq0.false c.next_settings.ensures
