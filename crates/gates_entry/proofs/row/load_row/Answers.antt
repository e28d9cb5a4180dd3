use mathlib.Core.Path.{sym, ap, ◌∙◌}
use Rattle.std.proofs.Common.{◌+◌, ◌*◌, take, drop}
use native.Mathlib.Omega.{arith}
use Rattle.gates_entry.specs.Rows.{part_here, fetching_start, fetching_turn, fetching_end}
use Rattle.gates_entry.specs.Entry.{row_count, row_few}
use Rattle.lib_laws.specs.Both.{both}
use Rattle.gates_entry.proofs.row.load_row.Goals as goal

pub loop-i-init : goal.loop-i-init
loop-i-init g c = fetching_start g.T.Element.Fit g.T.Element.of_bytes g.T.Element.WIDTH g.row.CAP _ c.new-out.ensures.items

pub loop-i-preserved : goal.loop-i-preserved
loop-i-preserved g c =
    let k = row_few g.T.Element.WIDTH g.row.CAP c.args.s.now c.args.at c.requires.store in
    let n = rw c.WIDTH.ensures at c.count-i-end.ensures in
    let e = rw c.WIDTH-in-loop-i.ensures at c.load.ensures.value in
    fetching_turn {c = take (g.row.CAP * g.T.Element.WIDTH + 1) (drop c.args.at c.args.s.now)} c.loop-i.invariant {u = c.push.new.self} (omega arith) (e ∙ ap g.T.Element.of_bytes (part_here g.T.Element.WIDTH g.row.CAP c.args.s.now c.args.at c.loop-i.i (omega arith))) c.load.ensures.fit c.push.ensures.items

pub returns : goal.returns
returns g c =
    both (λ a b. record { fit = a; value = b })
    (fetching_end c.loop-i.invariant c.requires.cap_bound c.requires.store (rw c.WIDTH.ensures at c.count-i-end.ensures ∙ sym (row_count (g.row.CAP * g.T.Element.WIDTH) c.args.s.now c.args.at)) (omega arith))
