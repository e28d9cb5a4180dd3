use Rattle.std.proofs.Common.{sym, ◌∙◌}
use Rattle.rules.specs.Settle.{named}
use Rattle.lib_laws.specs.Place.{without_at, without_nowhere}
use Rattle.held.specs.View.{view_held}
use Rattle.held.specs.Walk.{found_within}
use Rattle.held.proofs.map.drop_held.Goals as goal

pub remove_held-requires-clause-i_bound : goal.remove_held-requires-clause-i_bound
remove_held-requires-clause-i_bound c = found_within c.args.peer.0 c.requires (sym c.in-Some.ensures)

pub returns-in-Some-clause-s_after : goal.returns-in-Some-clause-s_after
returns-in-Some-clause-s_after c = c.remove_held.ensures.s_after ∙ sym (without_at (named c.args.peer.0) (view_held c.args.s.now) c.in-Some.i (sym c.in-Some.ensures))

pub returns-in_default-clause-s_after : goal.returns-in_default-clause-s_after
returns-in_default-clause-s_after c = sym (without_nowhere (named c.args.peer.0) (view_held c.args.s.now) (sym c.in_default.ensures))
