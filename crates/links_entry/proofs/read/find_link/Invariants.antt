-- `links_entry::read::find_link` meets its contract.
use Rattle.lib_laws.specs.Chunk.{chunks}
use Rattle.lib_laws.specs.Scan.{Ahead, scan}
use Rattle.links_entry.specs.Layout.{link_cap, link_width}
use Rattle.links_entry.specs.View.{link_of, view_links}
use Rattle.rules.specs.Links.{numbered}
use Rattle.links_entry.proofs.read.find_link.Given as goal

abbrev pub invariant-loop-i : goal.invariant-loop-i
invariant-loop-i l = Ahead (scan (numbered l.n.0) 0 (view_links l.s)) (numbered l.n.0) link_of l.len (chunks link_width link_cap l.s) l.i
