-- `links_entry::paths::drop_paths` meets its contract.
use Prim.Native.Nat.{◌-◌}
use Rattle.links_entry.specs.Asking.{Sifting}
use Rattle.links_entry.specs.View.{FitPaths, view_paths}
use Rattle.node_addr.specs.View.{view_pair}
use Rattle.rules.specs.Links.{path_at}
use lib.ListN.{length}
use mathlib.Core.Bool.{not}
use mathlib.Core.Bool.{not}
use Rattle.links_entry.proofs.paths.drop_paths.Given as goal

abbrev pub invariant-loop-j : goal.invariant-loop-j
invariant-loop-j l = FitPaths l.s × Sifting (λ w. not (path_at (view_pair l.p) w)) (view_paths l.initial.s) (view_paths l.s) l.j

abbrev pub decreases-loop-j : goal.decreases-loop-j
decreases-loop-j l = length (view_paths l.s) - l.j
