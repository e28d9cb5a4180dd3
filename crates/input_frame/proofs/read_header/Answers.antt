use Rattle.input_frame.proofs.Start.{header_none, header_cut, header_read}
use Rattle.input_frame.proofs.read_header.Goals as goal

pub returns-in_err-f-clause-is : goal.returns-in_err-f-clause-is
returns-in_err-f-clause-is c = rw c.from_residual.ensures (header_none _ c.in_err-f.ensures.is)

pub returns-in_err-now-clause-is : goal.returns-in_err-now-clause-is
returns-in_err-now-clause-is c = rw c.from_residual-in_err-now.ensures (header_cut _ c.in_ok-f.ensures.is c.new-cursor.ensures c.in_err-now.ensures)

pub returns-clause-is : goal.returns-clause-is
returns-clause-is c = header_read _ c.in_ok-f.ensures.is c.new-cursor.ensures c.in_ok-now.ensures
