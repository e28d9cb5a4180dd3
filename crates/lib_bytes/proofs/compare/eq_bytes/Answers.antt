use Rattle.std.specs.Prelude.{◌*◌, ◌+◌, ◌≡◌}
use Rattle.std.proofs.Common.{arith}
use Rattle.lib_bytes.proofs.Runs.{level_next, level_stop, level_end}
use Rattle.lib_bytes.proofs.compare.eq_bytes.Goals as goal

pub returns-then-not-eq_8 : goal.returns-then-not-eq_8
returns-then-not-eq_8 c =
    let v = c.args in
    level_stop v.n v.s.now v.at v.t.now v.from c.requires.n_in_bounds c.requires.n_in_bounds_2 c.loop-k.invariant (omega arith) c.eq_8.ensures c.if-not-eq_8.true

pub loop-k-preserved : goal.loop-k-preserved
loop-k-preserved c =
    let v = c.args in
    let e : (c.loop-k.k + 1) * 8 ≡ c.loop-k.k * 8 + 8 = omega arith in
    rw e (level_next v.n v.s.now v.at v.t.now v.from c.requires.n_in_bounds c.requires.n_in_bounds_2 c.loop-k.invariant (omega arith) c.eq_8.ensures c.if-not-eq_8.false)

pub returns : goal.returns
returns c =
    let v = c.args in
    level_end v.n v.s.now v.at v.t.now v.from c.requires.n_in_bounds c.requires.n_in_bounds_2 c.loop-k.invariant (omega arith) (omega arith) c.eq_8-2.ensures
