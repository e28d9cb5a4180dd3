use Rattle.std.specs.Prelude.{◌*◌}
use Rattle.lib_bytes.proofs.Runs.{Level}
use Rattle.lib_bytes.proofs.compare.eq_bytes.Given as goal

abbrev pub invariant-loop-k : goal.invariant-loop-k
invariant-loop-k l = Level l.n l.s l.at l.t l.from (l.k * 8)
