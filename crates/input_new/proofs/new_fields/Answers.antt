use Rattle.rules.specs.Record.{begin_fields}
use Rattle.input_cursor.proofs.Field.{bound, bound_none}
use Rattle.input_call.proofs.Read.{gave}
use Rattle.input_new.proofs.Begin.{new_none, new_other, new_cut, new_over, new_all}
use Rattle.input_new.proofs.new_fields.Goals as goal

pub returns-in_err-f : goal.returns-in_err-f
returns-in_err-f c = rw c.from_residual.ensures (new_none c.in_err-f.ensures.is)

pub returns-then-f : goal.returns-then-f
returns-then-f c = new_other c.in_ok-f.ensures.is c.if-f.true

pub returns-in_err-_clock : goal.returns-in_err-_clock
unfolding begin_fields
returns-in_err-_clock c = rw c.from_residual-in_err-_clock.ensures (new_cut c.in_ok-f.ensures.is c.if-f.false c.new-cursor.ensures (bound_none _ c.in_err-_clock.ensures))

pub returns-in_err-fixed : goal.returns-in_err-fixed
unfolding begin_fields
returns-in_err-fixed c = rw c.from_residual-in_err-fixed.ensures (new_cut c.in_ok-f.ensures.is c.if-f.false c.new-cursor.ensures (bound _ c.in_ok-_clock.ensures (bound_none _ c.in_err-fixed.ensures)))

pub returns-in_err-u64 : goal.returns-in_err-u64
unfolding begin_fields
returns-in_err-u64 c = rw c.from_residual-in_err-u64.ensures (new_cut c.in_ok-f.ensures.is c.if-f.false c.new-cursor.ensures (bound _ c.in_ok-_clock.ensures (bound _ c.in_ok-fixed.ensures (bound_none _ c.in_err-u64.ensures))))

pub returns-in_err-next_form : goal.returns-in_err-next_form
unfolding begin_fields
returns-in_err-next_form c = rw c.from_residual-in_err-next_form.ensures (new_cut c.in_ok-f.ensures.is c.if-f.false c.new-cursor.ensures (bound _ c.in_ok-_clock.ensures (bound _ c.in_ok-fixed.ensures (bound _ c.in_ok-u64.ensures (bound_none _ c.in_err-next_form.ensures)))))

pub returns-in_err-end : goal.returns-in_err-end
unfolding begin_fields
returns-in_err-end c = rw c.from_residual-in_err-end.ensures (new_over c.in_ok-f.ensures.is c.if-f.false c.new-cursor.ensures (bound _ c.in_ok-_clock.ensures (bound _ c.in_ok-fixed.ensures (bound _ c.in_ok-u64.ensures (bound _ c.in_ok-next_form.ensures gave)))) c.in_err-end.ensures)

pub returns : goal.returns
unfolding begin_fields
returns c = new_all c.in_ok-f.ensures.is c.if-f.false c.new-cursor.ensures c.in_ok-_clock._clock _ (bound _ c.in_ok-_clock.ensures (bound _ c.in_ok-fixed.ensures (bound _ c.in_ok-u64.ensures (bound _ c.in_ok-next_form.ensures gave)))) c.in_ok-end.ensures
