-- `settle::call` meets its contract.
use Rattle.refusal.specs.Passed.{passed_missing}
use Rattle.input_frame.specs.Frame.{opens}
use Rattle.settle.proofs.Meets.{all_bytes, call_short, call_unread, call_asked, call_done}
use Rattle.settle.proofs.call.Goals as goal

pub returns-then-out-lt-BUFFER_LEN : goal.returns-then-out-lt-BUFFER_LEN
returns-then-out-lt-BUFFER_LEN c = call_short c.args.input.now (all_bytes c.args.input.now c.type_inv.input) c.requires c.if-out-lt-BUFFER_LEN.true

pub returns-in_err-r : goal.returns-in_err-r
returns-in_err-r c =
    rw (passed_missing c.from_residual.ensures.1 c.in_err-r.ensures.value c.in_err-r.ensures.ok_part)
    (call_unread (all_bytes c.args.input.now c.type_inv.input) c.requires c.if-out-lt-BUFFER_LEN.false (opens _ c.read_header.ensures.is c.read_header.ensures.room) c.in_err-r.ensures.ok_part)

pub step-requires : goal.step-requires
step-requires c = call_asked (all_bytes c.args.input.now c.type_inv.input) c.requires c.if-out-lt-BUFFER_LEN.false (opens _ c.read_header.ensures.is c.read_header.ensures.room) c.in_ok-r.ensures.ok_part

pub returns : goal.returns
returns c = call_done (all_bytes c.args.input.now c.type_inv.input) c.requires c.if-out-lt-BUFFER_LEN.false (opens _ c.read_header.ensures.is c.read_header.ensures.room) c.in_ok-r.ensures.ok_part c.step.ensures
