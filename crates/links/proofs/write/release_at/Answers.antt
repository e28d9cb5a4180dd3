-- `links::write::release_at` meets its contract.
use Rattle.lib_laws.specs.Store.{entries_count}
use Rattle.links.specs.Change.{place_left, released_both}
use Rattle.links_entry.specs.View.{link_of, view_links}
use Rattle.node_addr.specs.View.{view_pair}
use Rattle.links.proofs.write.release_at.Goals as goal

pub cut_at-requires : goal.cut_at-requires
cut_at-requires c = record { fit_links = c.mark_at.ensures.fit_links_2; i_bound = place_left _ c.requires.fit_links c.mark_at.ensures.fit_links_2 c.mark_at.ensures.s_after c.requires.i_bound }

pub returns : goal.returns
returns c = record { fit_links_2 = c.cut_at.ensures.fit_links_2; s_after = released_both (view_pair c.args.p) c.args.i (view_links c.args.s.now) (rw (entries_count link_of c.requires.fit_links) c.requires.i_bound) c.mark_at.ensures.s_after c.cut_at.ensures.s_after }
