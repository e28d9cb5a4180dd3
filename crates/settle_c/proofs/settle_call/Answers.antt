-- `settle_c::settle_call` meets its contract.
use Rattle.settle_c.proofs.settle_call.Goals as goal

pub returns-in-Err : goal.returns-in-Err
returns-in-Err c = rw c.refusal_number.ensures c.in-Err.ensures
