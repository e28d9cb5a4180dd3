use Rattle.rules.specs.Record.{settings}
use Rattle.input_cursor.proofs.Field.{bound, bound_none}
use Rattle.input_call.proofs.Read.{gave}
use Rattle.input_new.proofs.next_settings.Goals as goal

pub returns-in_err-u64 : goal.returns-in_err-u64
unfolding settings
returns-in_err-u64 c = rw c.from_residual.ensures (bound_none _ c.in_err-u64.ensures)

pub returns-in_err-u64-2 : goal.returns-in_err-u64-2
unfolding settings
returns-in_err-u64-2 c = rw c.from_residual-in_err-u64-2.ensures (bound _ c.in_ok-u64.ensures (bound_none _ c.in_err-u64-2.ensures))

pub returns-in_err-u64-3 : goal.returns-in_err-u64-3
unfolding settings
returns-in_err-u64-3 c = rw c.from_residual-in_err-u64-3.ensures (bound _ c.in_ok-u64.ensures (bound _ c.in_ok-u64-2.ensures (bound_none _ c.in_err-u64-3.ensures)))

pub returns-in_err-u64-4 : goal.returns-in_err-u64-4
unfolding settings
returns-in_err-u64-4 c = rw c.from_residual-in_err-u64-4.ensures (bound _ c.in_ok-u64.ensures (bound _ c.in_ok-u64-2.ensures (bound _ c.in_ok-u64-3.ensures (bound_none _ c.in_err-u64-4.ensures))))

pub returns-in_err-u64-5 : goal.returns-in_err-u64-5
unfolding settings
returns-in_err-u64-5 c = rw c.from_residual-in_err-u64-5.ensures (bound _ c.in_ok-u64.ensures (bound _ c.in_ok-u64-2.ensures (bound _ c.in_ok-u64-3.ensures (bound _ c.in_ok-u64-4.ensures (bound_none _ c.in_err-u64-5.ensures)))))

pub returns-in_err-u64-6 : goal.returns-in_err-u64-6
unfolding settings
returns-in_err-u64-6 c = rw c.from_residual-in_err-u64-6.ensures (bound _ c.in_ok-u64.ensures (bound _ c.in_ok-u64-2.ensures (bound _ c.in_ok-u64-3.ensures (bound _ c.in_ok-u64-4.ensures (bound _ c.in_ok-u64-5.ensures (bound_none _ c.in_err-u64-6.ensures))))))

pub returns-in_err-u64-7 : goal.returns-in_err-u64-7
unfolding settings
returns-in_err-u64-7 c = rw c.from_residual-in_err-u64-7.ensures (bound _ c.in_ok-u64.ensures (bound _ c.in_ok-u64-2.ensures (bound _ c.in_ok-u64-3.ensures (bound _ c.in_ok-u64-4.ensures (bound _ c.in_ok-u64-5.ensures (bound _ c.in_ok-u64-6.ensures (bound_none _ c.in_err-u64-7.ensures)))))))

pub returns-in_err-u32 : goal.returns-in_err-u32
unfolding settings
returns-in_err-u32 c = rw c.from_residual-in_err-u32.ensures (bound _ c.in_ok-u64.ensures (bound _ c.in_ok-u64-2.ensures (bound _ c.in_ok-u64-3.ensures (bound _ c.in_ok-u64-4.ensures (bound _ c.in_ok-u64-5.ensures (bound _ c.in_ok-u64-6.ensures (bound _ c.in_ok-u64-7.ensures (bound_none _ c.in_err-u32.ensures))))))))

pub returns-in_err-u32-2 : goal.returns-in_err-u32-2
unfolding settings
returns-in_err-u32-2 c = rw c.from_residual-in_err-u32-2.ensures (bound _ c.in_ok-u64.ensures (bound _ c.in_ok-u64-2.ensures (bound _ c.in_ok-u64-3.ensures (bound _ c.in_ok-u64-4.ensures (bound _ c.in_ok-u64-5.ensures (bound _ c.in_ok-u64-6.ensures (bound _ c.in_ok-u64-7.ensures (bound _ c.in_ok-u32.ensures (bound_none _ c.in_err-u32-2.ensures)))))))))

pub returns-in_err-byte : goal.returns-in_err-byte
unfolding settings
returns-in_err-byte c = rw c.from_residual-in_err-byte.ensures (bound _ c.in_ok-u64.ensures (bound _ c.in_ok-u64-2.ensures (bound _ c.in_ok-u64-3.ensures (bound _ c.in_ok-u64-4.ensures (bound _ c.in_ok-u64-5.ensures (bound _ c.in_ok-u64-6.ensures (bound _ c.in_ok-u64-7.ensures (bound _ c.in_ok-u32.ensures (bound _ c.in_ok-u32-2.ensures (bound_none _ c.in_err-byte.ensures))))))))))

pub returns-in_err-byte-2 : goal.returns-in_err-byte-2
unfolding settings
returns-in_err-byte-2 c = rw c.from_residual-in_err-byte-2.ensures (bound _ c.in_ok-u64.ensures (bound _ c.in_ok-u64-2.ensures (bound _ c.in_ok-u64-3.ensures (bound _ c.in_ok-u64-4.ensures (bound _ c.in_ok-u64-5.ensures (bound _ c.in_ok-u64-6.ensures (bound _ c.in_ok-u64-7.ensures (bound _ c.in_ok-u32.ensures (bound _ c.in_ok-u32-2.ensures (bound _ c.in_ok-byte.ensures (bound_none _ c.in_err-byte-2.ensures)))))))))))

pub returns-in_err-u64-8 : goal.returns-in_err-u64-8
unfolding settings
returns-in_err-u64-8 c = rw c.from_residual-in_err-u64-8.ensures (bound _ c.in_ok-u64.ensures (bound _ c.in_ok-u64-2.ensures (bound _ c.in_ok-u64-3.ensures (bound _ c.in_ok-u64-4.ensures (bound _ c.in_ok-u64-5.ensures (bound _ c.in_ok-u64-6.ensures (bound _ c.in_ok-u64-7.ensures (bound _ c.in_ok-u32.ensures (bound _ c.in_ok-u32-2.ensures (bound _ c.in_ok-byte.ensures (bound _ c.in_ok-byte-2.ensures (bound_none _ c.in_err-u64-8.ensures))))))))))))

pub returns : goal.returns
unfolding settings
returns c = bound _ c.in_ok-u64.ensures (bound _ c.in_ok-u64-2.ensures (bound _ c.in_ok-u64-3.ensures (bound _ c.in_ok-u64-4.ensures (bound _ c.in_ok-u64-5.ensures (bound _ c.in_ok-u64-6.ensures (bound _ c.in_ok-u64-7.ensures (bound _ c.in_ok-u32.ensures (bound _ c.in_ok-u32-2.ensures (bound _ c.in_ok-byte.ensures (bound _ c.in_ok-byte-2.ensures (bound _ c.in_ok-u64-8.ensures gave)))))))))))
