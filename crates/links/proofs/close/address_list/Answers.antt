-- `links::close::address_list` meets its contract.
use Rattle.links.specs.Close.{listing_end, listing_from, listing_turn}
use Rattle.links_entry.specs.View.{no_link, no_path, view_links}
use Rattle.node_addr.specs.View.{view_pair}
use Rattle.rules.specs.Data.{PathRec}
use borrow.Author.Rules.{rules}
use mathlib.Core.List.{[], ◌∷◌, map-append}
use mathlib.Core.Path.{◌∙◌, sym}
use native.Mathlib.Omega.{arith}
use lib.ListN.{get_or}
use Rattle.std.proofs.Math.ListN.{get_or-map}
use Rattle.std.proofs.lemmas.List.{length-map}
use Rattle.links.proofs.close.address_list.Goals as goal

pub loop-j-init : goal.loop-j-init
loop-j-init c =
    listing_from
    (get_or (view_links c.args.s.now) c.args.i no_link)
    (rw (c.push.ensures.items, map-append view_pair c.no_closes-out.result.items (c.setup_at.result ∷ []), c.no_closes-out.ensures, c.setup_at.ensures))

pub path_pair_at-requires : goal.path_pair_at-requires
path_pair_at-requires c = record { fit_links = c.requires.fit_links; i_bound = c.requires.i_bound; j_in_bounds = omega (arith, c.loop-j-test.true, c.path_count_at-n.ensures.value) }

pub list_once-requires : goal.list_once-requires
list_once-requires c = omega (arith, c.loop-j.invariant.few, c.path_count_at-n.ensures.upper_bound, c.loop-j-test.true)

pub loop-j-preserved : goal.loop-j-preserved
loop-j-preserved c =
    let ws = (get_or (view_links c.args.s.now) c.args.i no_link).paths in
    listing_turn
    c.loop-j.invariant
    no_path.pair
    (rw length-map (omega (arith, c.loop-j-test.true, c.path_count_at-n.ensures.value)))
    (c.path_pair_at.ensures ∙ sym (get_or-map (λ (w : PathRec). w.pair) ws c.loop-j.j no_path))
    c.list_once.ensures

pub returns : goal.returns
returns c = listing_end c.loop-j.invariant (rw length-map (search rules))
