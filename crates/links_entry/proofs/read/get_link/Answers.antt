-- `links_entry::read::get_link` meets its contract.
use Rattle.links_entry.specs.Here.{paths_lent, paths_show}
use Rattle.links_entry.specs.Load.{link_loaded}
use mathlib.Core.Path.{◌∙◌}
use Rattle.links_entry.proofs.read.get_link.Goals as goal

pub load_paths-requires : goal.load_paths-requires
load_paths-requires c = paths_lent c.requires.fit_links c.requires.i_bound

pub returns : goal.returns
returns c =
    let ws = c.load_paths.ensures ∙ paths_show c.requires.fit_links c.requires.i_bound in
    link_loaded _ c.no_at.ensures c.setup_at.ensures c.dir_at.ensures c.holder_at.ensures ws c.released_at.ensures
