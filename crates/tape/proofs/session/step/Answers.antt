-- `tape::session::step` meets its contract.
use Rattle.tape.proofs.Step.{steps_by, step_over}
use Rattle.tape.proofs.session.step.Goals as goal

pub other-requires : goal.other-requires
other-requires c = record { left = c.requires.left c.in-Running.is; out_len_in_bounds = c.requires.out_len_in_bounds }

pub returns-in-Before : goal.returns-in-Before
returns-in-Before c = steps_by c.in-Before.is c.first.ensures

pub returns-in-Running : goal.returns-in-Running
returns-in-Running c = steps_by c.in-Running.is c.other.ensures

pub returns-in-Over : goal.returns-in-Over
returns-in-Over c = steps_by c.in-Over.is (step_over c.args.table.now c.args.rec.now c.args.out.now)
