use Rattle.rules.specs.Base.{same}
use Rattle.lib_laws.specs.Chunk.{chunks}
use Rattle.lib_laws.specs.Scan.{scan, Ahead}
use Rattle.node_addr.specs.Search.{address, addresses}
use Rattle.node_addr.proofs.search.find_node.Given as goal

abbrev pub invariant-loop-i : goal.invariant-loop-i
invariant-loop-i l = Ahead (scan (same l.peer.0) 0 (addresses l.width l.n l.s)) (same l.peer.0) address l.n (chunks l.width l.n l.s) l.i
