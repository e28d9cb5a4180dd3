-- `links_entry::paths::load_paths` meets its contract.
use Rattle.links_entry.specs.Asking.{Loading}
use Rattle.links_entry.specs.View.{view_path, view_paths}
use Rattle.links_entry.proofs.paths.load_paths.Given as goal

abbrev pub invariant-loop-j : goal.invariant-loop-j
invariant-loop-j l = Loading view_path (view_paths l.s) l.j l.out.items
