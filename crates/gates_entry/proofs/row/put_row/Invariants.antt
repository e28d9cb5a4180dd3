use Rattle.gates_entry.specs.Rows.{Rowing}
use Rattle.gates_entry.proofs.row.put_row.Given as goal

abbrev pub invariant-loop-e : goal.invariant-loop-e
invariant-loop-e g l = Rowing g.T.Element.bytes g.T.Element.WIDTH l.e-items l.initial.s l.at l.e-index l.s l.a
