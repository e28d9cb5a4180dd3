use mathlib.Core.Path.{◌∙◌}
use native.Mathlib.Omega.{arith}
use Rattle.tape.proofs.Turns.{going_start, next_end, next_some, rest_size, step_size, going_step, going_full, going_end}
use Rattle.tape.proofs.run.run.Goals as goal

pub loop-at-init : goal.loop-at-init
loop-at-init c = going_start c.args.tape.now c.args.table.now c.args.out.now

pub overflow_sub-out : goal.overflow_sub-out
overflow_sub-out c = omega (arith, c.loop-at.invariant.room, c.loop-at.invariant.out)

pub shape_of-table-then-out-len-lt-OUT_LEN : goal.shape_of-table-then-out-len-lt-OUT_LEN
shape_of-table-then-out-len-lt-OUT_LEN c = c.loop-at.invariant.table

pub shape_of-out-then-out-len-lt-OUT_LEN : goal.shape_of-out-then-out-len-lt-OUT_LEN
shape_of-out-then-out-len-lt-OUT_LEN c = c.loop-at.invariant.out

pub returns-then-out-len-lt-OUT_LEN : goal.returns-then-out-len-lt-OUT_LEN
returns-then-out-len-lt-OUT_LEN c = going_full c.loop-at.invariant c.loop-at-test.true c.if-out-len-lt-OUT_LEN.true

pub overflow_add-end : goal.overflow_add-end
overflow_add-end c = record { fits = omega (arith, next_end c.loop-at.invariant c.extent.ensures) }

pub slice_bounds-step-end : goal.slice_bounds-step-end
slice_bounds-step-end c = next_end c.loop-at.invariant c.extent.ensures

pub slice_bounds-step-count-in-loop-at : goal.slice_bounds-step-count-in-loop-at
slice_bounds-step-count-in-loop-at c = omega (arith, c.loop-at.invariant.room, c.loop-at.invariant.out)

pub slice_bounds-step-start-in-loop-at : goal.slice_bounds-step-start-in-loop-at
slice_bounds-step-start-in-loop-at c = omega (arith, c.loop-at.invariant.room, c.loop-at.invariant.out)

pub step-n-requires : goal.step-n-requires
step-n-requires c = record { whole_table = c.loop-at.invariant.table ∙ c.requires; out_len_in_bounds = omega (arith, rest_size c.loop-at.invariant, c.if-out-len-lt-OUT_LEN.false); left = c.loop-at.invariant.left }

pub overflow_add-len : goal.overflow_add-len
overflow_add-len c = record { fits = omega (arith, step_size c.loop-at.invariant c.step-n.ensures c.step-n.auto.out, c.loop-at.invariant.room, c.loop-at.invariant.out) }

pub loop-at-smaller : goal.loop-at-smaller
loop-at-smaller c = omega (arith, next_end c.loop-at.invariant c.extent.ensures, next_some c.loop-at.invariant c.extent.ensures c.loop-at-test.true)

pub loop-at-preserved : goal.loop-at-preserved
loop-at-preserved c = going_step c.loop-at.invariant c.extent.ensures c.loop-at-test.true c.if-out-len-lt-OUT_LEN.false c.step-n.ensures c.step-n.auto.out c.step-n.auto.table

pub shape_of-table : goal.shape_of-table
shape_of-table c = c.loop-at.invariant.table

pub shape_of-out : goal.shape_of-out
shape_of-out c = c.loop-at.invariant.out

pub returns : goal.returns
returns c = going_end c.loop-at.invariant c.loop-at-test.false
