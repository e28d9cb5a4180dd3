-- `links_entry::read::path_count_at` meets its contract.
use Rattle.links_entry.specs.Here.{path_count_is, paths_few}
use Rattle.links_entry.proofs.read.path_count_at.Goals as goal

pub returns : goal.returns
returns c =
    let e = path_count_is c.requires.fit_links c.requires.i_bound c.get_byte.ensures in
    record { value = e; upper_bound = paths_few c.requires.fit_links c.requires.i_bound e }
