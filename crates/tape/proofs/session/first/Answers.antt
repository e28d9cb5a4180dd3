-- `tape::session::first` meets its contract.
use mathlib.Core.Path.{refl}
use Rattle.std.proofs.Common.{arith, rules}
use Rattle.refusal.proofs.Codes.{code_some}
use Rattle.settle.proofs.Meets.{all_bytes}
use Rattle.tape.proofs.Step.{step_made, step_refused}
use Rattle.tape.proofs.session.first.Goals as goal

pub returns-in-Ok : goal.returns-in-Ok
returns-in-Ok c = step_made (all_bytes c.args.rec.now c.type_inv.rec) c.in-Ok.ensures c.put_done.ensures refl

pub returns-in-Err : goal.returns-in-Err
returns-in-Err c = step_refused (all_bytes c.args.rec.now c.type_inv.rec) c.in-Err.ensures (rw c.refusal_number.ensures at c.put_done-in-Err.ensures) (λ z. omega (arith, z, code_some c.in-Err.r))
