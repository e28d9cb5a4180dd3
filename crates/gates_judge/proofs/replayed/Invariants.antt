use Prim.Native.Nat.{◌+◌, ◌*◌}
use Rattle.rules.specs.Gates.{replayed}
use Rattle.params.specs.View.{view_params}
use Rattle.gates_entry.specs.Layout.{at_replays, memory_width}
use Rattle.gates_entry.specs.View.{memory_at}
use Rattle.gates_judge.specs.Replays.{Passing}
use Rattle.gates_judge.proofs.replayed.Given as goal

abbrev pub invariant-loop-j : goal.invariant-loop-j
invariant-loop-j l = Passing (replayed (view_params l.c) l.clock l.digest.0 (memory_at l.s l.i)) (view_params l.c) l.clock l.digest.0 l.s (l.i * memory_width + at_replays) l.n l.j l.live
