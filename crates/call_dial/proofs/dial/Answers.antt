-- `call_dial::dial` meets its contract.
use Rattle.std.proofs.Common.{◌<◌, length, refl, sym}
use Rattle.refusal.specs.Passed.{passed}
use Rattle.table_layout.specs.View.{view_table}
use Rattle.call_contract.specs.Sound.{legs_room}
use Rattle.call_contract.specs.Did.{space_place, space_result, ruled_is, ruled_ok, ruled_refused}
use Rattle.call_limits.specs.Enter.{next_room}
use Rattle.call_dial.specs.Dial.{dial_exhausted, dial_error, dial_passed}
use Rattle.call_dial.proofs.dial.Goals as goal

pub returns-then-numbers_exhausted : goal.returns-then-numbers_exhausted
returns-then-numbers_exhausted c = ruled_is (ruled_refused 4 c.requires.ready.fit (space_place c.requires.space)) (sym (dial_exhausted _ _ _ _ _ _ c.numbers_exhausted.ensures c.if-numbers_exhausted.true))

pub returns-in_err-room_refusal : goal.returns-in_err-room_refusal
returns-in_err-room_refusal c =
    rw (passed c.from_residual.ensures.1) (
    ruled_is (ruled_refused _ c.requires.ready.fit (space_place c.requires.space))
    (sym (dial_error _ _ _ _ _ _ c.numbers_exhausted.ensures c.if-numbers_exhausted.false _ c.in_err-room_refusal.ensures))
    )

pub open_dial-requires : goal.open_dial-requires
open_dial-requires c =
    let l : length (view_table c.args.t.now).links < 32 = c.in_ok-room_refusal.ensures.links refl in
    record { fit_table = c.requires.ready.fit; t_len_bound = l; t_len_bound_2 = legs_room c.requires.ready.sound l; t_bound = next_room _ c.numbers_exhausted.ensures c.requires.ready.sound c.if-numbers_exhausted.false; space = space_result c.requires.space (dial_passed _ _ _ _ _ _ c.numbers_exhausted.ensures c.if-numbers_exhausted.false c.in_ok-room_refusal.ensures) }

pub returns : goal.returns
returns c =
    ruled_is (ruled_ok c.open_dial.ensures)
    (sym (dial_passed _ _ _ _ _ _ c.numbers_exhausted.ensures c.if-numbers_exhausted.false c.in_ok-room_refusal.ensures))
