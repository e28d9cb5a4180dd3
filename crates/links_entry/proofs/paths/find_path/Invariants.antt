-- `links_entry::paths::find_path` meets its contract.
use Rattle.lib_laws.specs.Chunk.{chunks}
use Rattle.lib_laws.specs.Scan.{Ahead, scan}
use Rattle.links_entry.specs.Layout.{path_cap, path_width}
use Rattle.links_entry.specs.View.{path_of, view_paths}
use Rattle.node_addr.specs.View.{view_pair}
use Rattle.rules.specs.Links.{path_at}
use Rattle.links_entry.proofs.paths.find_path.Given as goal

abbrev pub invariant-loop-j : goal.invariant-loop-j
invariant-loop-j l = Ahead (scan (path_at (view_pair l.p)) 0 (view_paths l.s)) (path_at (view_pair l.p)) path_of l.n (chunks path_width path_cap l.s) l.j
