-- `links_entry::paths::proves` meets its contract.
use Rattle.lib_laws.specs.Chunk.{chunks}
use Rattle.links_entry.specs.Layout.{path_cap, path_width}
use Rattle.links_entry.specs.Asking.{Asking}
use Rattle.links_entry.specs.View.{path_of, view_paths}
use Rattle.node_addr.specs.View.{view_pair}
use Rattle.rules.specs.Base.{any}
use Rattle.rules.specs.Links.{proven_at}
use Rattle.links_entry.proofs.paths.proves.Given as goal

abbrev pub invariant-loop-j : goal.invariant-loop-j
invariant-loop-j l = Asking (any (proven_at (view_pair l.p)) (view_paths l.s)) (proven_at (view_pair l.p)) path_of l.n (chunks path_width path_cap l.s) l.j
