use Rattle.std.proofs.Common.{sym, ◌∙◌}
use Rattle.rules.specs.Settle.{named, moved_to}
use Rattle.lib_laws.specs.Place.{alter_at, alter_nowhere}
use Rattle.node_addr.specs.View.{view_pair}
use Rattle.held.specs.View.{view_held, no_held}
use Rattle.held.specs.Walk.{found_within}
use Rattle.held.proofs.moved.move_peer.Goals as goal

pub moved_to-requires-clause-i_bound : goal.moved_to-requires-clause-i_bound
moved_to-requires-clause-i_bound c = found_within c.args.peer.0 c.requires (sym c.in-Some.ensures)

pub returns-in-Some-clause-s_after : goal.returns-in-Some-clause-s_after
returns-in-Some-clause-s_after c =
    c.moved_to.ensures.s_after ∙ sym (alter_at (named c.args.peer.0) (view_held c.args.s.now) c.in-Some.i (sym c.in-Some.ensures) (moved_to c.args.link.0 (view_pair c.args.from)) no_held)

pub returns-in_default-clause-s_after : goal.returns-in_default-clause-s_after
returns-in_default-clause-s_after c = sym (alter_nowhere (named c.args.peer.0) (view_held c.args.s.now) (sym c.in_default.ensures) (moved_to c.args.link.0 (view_pair c.args.from)))
