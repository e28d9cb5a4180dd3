use Rattle.rules.specs.Std.{before}
use Rattle.lib_laws.specs.Chunk.{chunks}
use Rattle.lib_laws.specs.Scan.{scan, Ahead}
use Rattle.node_addr.specs.Search.{address, addresses}
use Rattle.node_addr.proofs.search.place_before.Given as goal

abbrev pub invariant-loop-i : goal.invariant-loop-i
invariant-loop-i l = Ahead (scan (before l.peer.0) 0 (addresses l.width l.n l.s)) (before l.peer.0) address l.n (chunks l.width l.n l.s) l.i
