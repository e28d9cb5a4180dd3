-- `links::close::address_list` meets its contract.
use Rattle.links.specs.Close.{Listing}
use Rattle.links.specs.View.{view_closes}
use Rattle.links_entry.specs.View.{no_link, view_links}
use Rattle.rules.specs.Data.{PathRec}
use Rattle.rules.specs.Links.{addresses}
use mathlib.Core.List.{map}
use lib.ListN.{get_or}
use Rattle.links.proofs.close.address_list.Given as goal

abbrev pub invariant-loop-j : goal.invariant-loop-j
invariant-loop-j l =
    let r = get_or (view_links l.fn.s) l.fn.i no_link in
    Listing (addresses r) (map (λ (w : PathRec). w.pair) r.paths) l.j (view_closes l.out)
