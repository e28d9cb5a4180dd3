use Rattle.std.proofs.Common.{◌+◌, ◌*◌, take, drop}
use Rattle.gates_entry.specs.Rows.{Fetching}
use Rattle.gates_entry.proofs.row.load_row.Given as goal

abbrev pub invariant-loop-i : goal.invariant-loop-i
invariant-loop-i g l = Fetching g.T.Element.Fit g.T.Element.of_bytes g.T.Element.WIDTH g.row.CAP (take (g.row.CAP * g.T.Element.WIDTH + 1) (drop l.at l.s)) l.i l.out
