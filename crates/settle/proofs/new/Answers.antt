-- `settle::new` meets its contract.
use Rattle.refusal.specs.Passed.{passed}
use Rattle.settle.proofs.Meets.{all_bytes, in_range, begun_made, begun_refused}
use Rattle.settle.proofs.new.Goals as goal

pub returns-in_err-r : goal.returns-in_err-r
returns-in_err-r c = rw (passed c.from_residual.ensures.1) (begun_refused c.in_err-r.ensures)

pub start-requires : goal.start-requires
start-requires c = record { t_len = c.requires; c_value = in_range c.in_ok-r.ensures }

pub returns : goal.returns
returns c = begun_made c.in_ok-r.ensures (all_bytes c.args.input.now c.type_inv.input) c.start.ensures
