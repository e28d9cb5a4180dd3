use Rattle.std.specs.Prelude.{[]}
use Rattle.std.proofs.Common.{arith}
use Rattle.rules.specs.Std.{before}
use Rattle.lib_laws.specs.Scan.{scan_hit, scan_skip, scan_end}
use Rattle.node_addr.specs.Search.{takes_here, takes_end, ahead_start, address_told}
use Rattle.node_addr.proofs.search.place_before.Goals as goal

pub loop-i-init : goal.loop-i-init
loop-i-init c = ahead_start (before c.args.peer.0) c.args.width c.args.n c.args.s.now

pub returns-then-lt_node_at : goal.returns-then-lt_node_at
returns-then-lt_node_at c =
    let l = c.loop-i in
    takes_here (scan_hit l.invariant [] (omega arith) (address_told (before c.args.peer.0) c.args.s.now c.requires.width_bound c.requires.in_bounds (omega arith) c.lt_node_at.ensures c.if-lt_node_at.true)) (omega arith)

pub loop-i-preserved : goal.loop-i-preserved
loop-i-preserved c =
    let l = c.loop-i in
    scan_skip l.invariant [] (omega arith) (address_told (before c.args.peer.0) c.args.s.now c.requires.width_bound c.requires.in_bounds (omega arith) c.lt_node_at.ensures c.if-lt_node_at.false)

pub returns : goal.returns
returns c = takes_end (scan_end c.loop-i.invariant (omega arith))
