use Rattle.std.specs.Prelude.{[]}
use Rattle.std.proofs.Common.{rules, sym, arith}
use Rattle.rules.specs.Base.{same}
use Rattle.lib_laws.specs.Scan.{scan_hit, scan_skip, scan_end}
use Rattle.node_addr.specs.Alike.{same_front}
use Rattle.node_addr.specs.Search.{ahead_start, address_told}
use Rattle.node_addr.proofs.search.find_node.Goals as goal

pub loop-i-init : goal.loop-i-init
loop-i-init c = ahead_start (same c.args.peer.0) c.args.width c.args.n c.args.s.now

pub returns-then-eq_bytes : goal.returns-then-eq_bytes
returns-then-eq_bytes c =
    let l = c.loop-i in
    sym (scan_hit l.invariant [] (omega arith) (address_told (same c.args.peer.0) c.args.s.now c.requires.width_bound c.requires.in_bounds (omega arith) (same_front 16 c.args.peer.0 _ (search rules) c.eq_bytes.ensures) c.if-eq_bytes.true))

pub loop-i-preserved : goal.loop-i-preserved
loop-i-preserved c =
    let l = c.loop-i in
    scan_skip l.invariant [] (omega arith) (address_told (same c.args.peer.0) c.args.s.now c.requires.width_bound c.requires.in_bounds (omega arith) (same_front 16 c.args.peer.0 _ (search rules) c.eq_bytes.ensures) c.if-eq_bytes.false)

pub returns : goal.returns
returns c = sym (scan_end c.loop-i.invariant (omega arith))
