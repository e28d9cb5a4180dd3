use Rattle.lib_laws.specs.Parse.{Counting}
use Rattle.lib_bytes.proofs.read.get_few.Given as goal

abbrev pub invariant-loop-i : goal.invariant-loop-i
invariant-loop-i l = Counting l.s l.at l.n l.i l.v
