-- `call_limits::count::leg_place` meets its contract.
use Rattle.lib_laws.specs.Cell.{mapped_some, mapped_none}
use Rattle.table_layout.specs.View.{view_table}
use Rattle.call_limits.specs.Count.{leg_after, leg_unnamed, leg_again, leg_new}
use Rattle.call_limits.proofs.count.leg_place.Goals as goal

pub overflow_add-i : goal.overflow_add-i
overflow_add-i c = leg_after c.requires.fit_table c.requires.i_in_bounds

pub returns-in-Some : goal.returns-in-Some
returns-in-Some c = leg_new (view_table c.args.t.now) c.requires.i_in_bounds (mapped_some (λ x. x.0) c.leg_peer.ensures c.in-Some.is) c.named_from.ensures c.if-not-named_from.true

pub returns-in_default : goal.returns-in_default
returns-in_default c = leg_again (view_table c.args.t.now) c.requires.i_in_bounds (mapped_some (λ x. x.0) c.leg_peer.ensures c.in-Some.is) c.named_from.ensures c.if-not-named_from.false

pub returns-in_default-2 : goal.returns-in_default-2
returns-in_default-2 c = leg_unnamed (view_table c.args.t.now) c.requires.i_in_bounds (mapped_none (λ x. x.0) c.leg_peer.ensures c.in_default.is)
