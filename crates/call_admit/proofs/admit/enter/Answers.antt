-- `call_admit::admit::enter` meets its contract.
use Rattle.std.proofs.Common.{◌<◌, length, refl, sym}
use Rattle.refusal.specs.Passed.{passed}
use Rattle.table_layout.specs.View.{view_table}
use Rattle.call_contract.specs.Sound.{legs_room}
use Rattle.call_contract.specs.Did.{space_place, space_result, ruled_ok, ruled_refused, ruled_is}
use Rattle.call_limits.specs.Enter.{entering_passed, entering_error}
use Rattle.call_admit.proofs.admit.enter.Goals as goal

pub returns-in_err-room_refusal : goal.returns-in_err-room_refusal
returns-in_err-room_refusal c =
    rw (passed c.from_residual.ensures.1)
    (ruled_is (ruled_refused _ c.requires.ready.fit (space_place c.requires.space)) (sym (entering_error _ c.in_err-room_refusal.ensures _)))

pub answer-requires : goal.answer-requires
answer-requires c =
    let room : length (view_table c.args.t.now).links < 32 = c.in_ok-room_refusal.ensures.links refl in
    record { fit_table = c.requires.ready.fit; fit_hello = c.requires.fit_hello; t_len_bound = room; t_len_bound_2 = legs_room c.requires.ready.sound room; t_bound = c.requires.t_bound; space = space_result c.requires.space (entering_passed c.in_ok-room_refusal.ensures _) }

pub returns : goal.returns
returns c = ruled_is (ruled_ok c.answer.ensures) (sym (entering_passed c.in_ok-room_refusal.ensures _))
