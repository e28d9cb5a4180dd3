use Rattle.std.proofs.Common.{rules, arith}
use Rattle.call_contract.specs.Loop.{doing_start}
use Rattle.call_close.specs.Remove.{empty_end, empty_some, empty_at, empty_space, empty_turn}
use Rattle.call_close.proofs.close.remove_all.Goals as goal

pub held_count-n-requires : goal.held_count-n-requires
held_count-n-requires c = c.requires.ready.fit

pub loop-init : goal.loop-init
loop-init c = record { count = omega (arith, c.held_count-n.ensures); doing = doing_start _ c.requires.ready c.requires.space }

pub held_peer-p-requires : goal.held_peer-p-requires
held_peer-p-requires c = record { fit_table = c.loop.invariant.doing.ready.fit; i_in_bounds = empty_some c.loop.invariant c.loop-test.true }

pub remove_at-e-requires : goal.remove_at-e-requires
remove_at-e-requires c = record { ready = c.loop.invariant.doing.ready; i_in_bounds = empty_some c.loop.invariant c.loop-test.true; t_value = empty_at c.loop.invariant c.loop-test.true c.held_peer-p.ensures; space = empty_space c.loop.invariant c.loop-test.true c.held_peer-p.ensures }

pub loop-preserved : goal.loop-preserved
loop-preserved c = empty_turn c.loop.invariant c.loop-test.true c.held_peer-p.ensures c.remove_at-e.ensures c.ranges.clock.fits

pub returns : goal.returns
returns c = empty_end c.loop.invariant (search rules)
