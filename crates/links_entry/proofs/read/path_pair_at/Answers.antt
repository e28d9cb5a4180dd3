-- `links_entry::read::path_pair_at` meets its contract.
use Rattle.rules.specs.Data.{PathRec}
use Rattle.links_entry.specs.Here.{paths_lent, path_lent, path_is}
use Rattle.links_entry.proofs.read.path_pair_at.Goals as goal

pub pair_at-requires : goal.pair_at-requires
pair_at-requires c = record { fit_paths = paths_lent c.requires.fit_links c.requires.i_bound; j_bound = path_lent c.requires.fit_links c.requires.i_bound c.requires.j_in_bounds }

pub returns : goal.returns
returns c = path_is c.requires.fit_links c.requires.i_bound (λ (w : PathRec). w.pair) c.requires.j_in_bounds c.pair_at.ensures
