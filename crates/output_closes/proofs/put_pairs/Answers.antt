use Rattle.std.proofs.Common.{List, arith, ap, length, take_all}
use Rattle.node_addr.specs.declared.Pair.{Pair}
use Rattle.output_closes.specs.Lists.{pairs_none, row, row_room, row_put}
use Rattle.output_closes.proofs.put_pairs.Goals as goal

pub loop-p-init : goal.loop-p-init
loop-p-init c = pairs_none c.args.out.now c.args.at (omega arith)

pub put_pair-e-requires : goal.put_pair-e-requires
put_pair-e-requires c = omega (arith, row_room _ _ _ c.p-item.is c.loop-p-test.true, ap (λ (s : List Pair). length (row s)) c.as_slice-p-items.ensures.value)

pub loop-p-preserved : goal.loop-p-preserved
loop-p-preserved c = row_put _ _ _ c.p-item.is c.loop-p-test.true c.loop-p.invariant c.put_pair-e.ensures

pub returns : goal.returns
returns c = rw (take_all c.loop-p.p-index _ c.loop-p-test.false, c.as_slice-p-items.ensures.value) at c.loop-p.invariant
