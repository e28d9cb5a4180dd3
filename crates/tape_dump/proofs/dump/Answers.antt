use mathlib.Core.Path.{sym, ◌∙◌}
use native.Mathlib.Omega.{arith}
use lib.Seq.{length-take-le}
use Rattle.tape.specs.Feed.{standing_start, standing_step}
use Rattle.tape_dump.proofs.dump.Goals as goal

pub loop-init : goal.loop-init
loop-init c = standing_start c.args.table.now c.args.buf.now c.args.out.now

pub next_record-n-requires : goal.next_record-n-requires
next_record-n-requires c = c.loop.invariant.buf ∙ c.requires.buf_len

pub slice_bounds-step-end : goal.slice_bounds-step-end
slice_bounds-step-end c = c.next_record-n.ensures.room

pub slice_bounds-step-end-in-loop : goal.slice_bounds-step-end-in-loop
slice_bounds-step-end-in-loop c = sym (length-take-le c.next_record-n.result c.next_record-n.new.buf c.next_record-n.ensures.room)

pub step-r-requires : goal.step-r-requires
step-r-requires c = record { whole_table = c.loop.invariant.table ∙ c.requires.whole_table; out_len_in_bounds = omega (arith, c.loop.invariant.out, c.requires.out_len_in_bounds); left = c.loop.invariant.left }

pub loop-preserved : goal.loop-preserved
loop-preserved c = standing_step c.loop.invariant c.step-r.ensures c.step-r.auto.table c.next_record-n.auto.buf c.step-r.auto.out
