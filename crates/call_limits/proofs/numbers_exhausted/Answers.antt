-- `call_limits::numbers_exhausted` meets its contract.
use Rattle.call_limits.proofs.numbers_exhausted.Goals as goal

pub returns : goal.returns
returns c = rw c.next_no.ensures
