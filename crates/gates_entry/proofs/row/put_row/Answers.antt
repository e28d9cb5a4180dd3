use mathlib.Core.Path.{◌≡◌, ap}
use Prim.Native.Nat.{◌≤◌}
use lib.ListN.{length}
use native.Mathlib.Omega.{arith}
use Rattle.gates_entry.specs.Rows.{row_rest, row_start, row_turn, row_end}
use Rattle.gates_entry.proofs.row.put_row.Goals as goal

pub loop-e-init : goal.loop-e-init
loop-e-init g c = row_start g.T.Element.bytes g.T.Element.WIDTH _ _ _ (omega arith)

pub loop-e-preserved : goal.loop-e-preserved
loop-e-preserved g c = row_turn g.T.Element.bytes g.T.Element.WIDTH _ c.loop-e.invariant _ c.loop-e-test.true (rw c.e-item.is at c.put-a.ensures)

pub clear-b-requires : goal.clear-b-requires
clear-b-requires g c =
    let l : length c.deref-e-items.result.now ≡ length c.args.v.now.items = ap length c.deref-e-items.ensures.0 in
    let e : c.loop-e.e-index ≡ c.len-n.result = omega arith in
    let w = rw e at c.loop-e.invariant.wrote.end in
    let z = row_rest g.T.Element.WIDTH c.len-n.result g.row.CAP c.len-n.ensures.fits in
    rw c.WIDTH.ensures (omega arith)

pub returns : goal.returns
returns g c =
    let e : c.deref-e-items.result.now ≡ c.args.v.now.items = c.deref-e-items.ensures.0 in
    let h : length c.deref-e-items.result.now ≤ g.row.CAP = rw (e, ← c.len-n.ensures.value) c.len-n.ensures.fits in
    rw (← e) (
    row_end g.T.Element.bytes g.T.Element.WIDTH _ c.loop-e.invariant g.row.CAP h (omega arith) (rw e c.len-n.ensures.value) (rw c.WIDTH.ensures at c.clear-b.ensures)
    c.put_byte.ensures
    )
