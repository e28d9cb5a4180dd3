-- `tape::session::other` meets its contract.
use native.Mathlib.Omega.{arith}
use Rattle.settle.proofs.Meets.{all_bytes}
use Rattle.tape.proofs.Step.{call_room, call_length, step_called}
use Rattle.tape.proofs.session.other.Goals as goal

pub slice_bounds-call-end : goal.slice_bounds-call-end
slice_bounds-call-end c = omega (arith, c.requires.out_len_in_bounds)

pub put_done-requires : goal.put_done-requires
put_done-requires c = call_room c.args.out.now c.in-Ok.ensures c.requires.out_len_in_bounds c.call.auto.out

pub put_done-requires-in-Err : goal.put_done-requires-in-Err
put_done-requires-in-Err c = call_room c.args.out.now c.in-Err.ensures c.requires.out_len_in_bounds c.call.auto.out

pub returns-in-Ok : goal.returns-in-Ok
returns-in-Ok c = step_called c.args.out.now c.in-Ok.ensures c.requires.out_len_in_bounds c.call.auto.out (all_bytes c.args.rec.now c.type_inv.rec) c.put_done.ensures

pub returns-in-Err : goal.returns-in-Err
returns-in-Err c = step_called c.args.out.now c.in-Err.ensures c.requires.out_len_in_bounds c.call.auto.out (all_bytes c.args.rec.now c.type_inv.rec) (rw c.refusal_number.ensures at c.put_done-in-Err.ensures)
