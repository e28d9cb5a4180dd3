-- `links_entry::read::in_use` meets its contract.
use Rattle.lib_laws.specs.Chunk.{chunks}
use Rattle.links_entry.specs.Layout.{link_cap, link_width}
use Rattle.links_entry.specs.Asking.{Asking}
use Rattle.links_entry.specs.View.{link_of, view_links}
use Rattle.node_addr.specs.View.{view_pair}
use Rattle.rules.specs.Links.{in_use, uses}
use Rattle.links_entry.proofs.read.in_use.Given as goal

abbrev pub invariant-loop-i : goal.invariant-loop-i
invariant-loop-i l = Asking (in_use (view_pair l.p) (view_links l.s)) (uses (view_pair l.p)) link_of l.n (chunks link_width link_cap l.s) l.i
