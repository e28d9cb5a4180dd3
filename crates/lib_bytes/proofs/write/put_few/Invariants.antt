use Rattle.lib_laws.specs.Splice.{Putting}
use Rattle.lib_bytes.proofs.write.put_few.Given as goal

abbrev pub invariant-loop-i : goal.invariant-loop-i
invariant-loop-i l = Putting l.initial.s l.at l.n l.v l.s l.i l.w
