-- Those kept so far are those of the elements passed at which the calls so far answered true.
use Rattle.std.proofs.Common.{Bool, List, ◌≤◌}
use Rattle.std.specs.Fn.{CalledAt}
use Rattle.std.specs.List.Retain.{ReturnsInTurn}
use Rattle.std.proofs.Retain.{RetainInvariant}
use Rattle.lib_list.proofs.to_front.Given as goal

abbrev pub invariant-loop-i : goal.invariant-loop-i
invariant-loop-i g l =
    (l.kept ≤ l.i) × goal.F-IsAlwaysCallable g l.f
    × ((bs : List Bool) × RetainInvariant bs l.initial.xs l.xs l.kept l.i × ReturnsInTurn (CalledAt g.F.FnMut) l.initial.f bs l.initial.xs l.f)
