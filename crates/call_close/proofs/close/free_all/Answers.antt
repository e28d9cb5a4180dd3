use Rattle.std.proofs.Common.{refl, rules, arith}
use Rattle.call_contract.specs.Loop.{writing_length}
use Rattle.call_close.specs.Close.{freeing_start, freeing_within, freeing_room, freeing_turn, freeing_end}
use Rattle.call_close.proofs.close.free_all.Goals as goal

pub loop-i-init : goal.loop-i-init
loop-i-init c = freeing_start _ refl c.requires.space

pub leg_lease-requires : goal.leg_lease-requires
leg_lease-requires c = record { fit_table = c.requires.fit_table; i_in_bounds = freeing_within c.loop-i.invariant (omega arith) }

pub put_free-e-requires : goal.put_free-e-requires
put_free-e-requires c = freeing_room c.loop-i.invariant (omega arith)

pub loop-i-preserved : goal.loop-i-preserved
loop-i-preserved c = freeing_turn c.loop-i.invariant (omega arith) c.leg_lease.ensures c.put_free-e.ensures

pub shape_of-out : goal.shape_of-out
shape_of-out c = writing_length c.loop-i.invariant.writing

pub returns : goal.returns
returns c = freeing_end c.loop-i.invariant (search rules)
