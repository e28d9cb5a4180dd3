-- `links_entry::read::wire_proven_at` meets its contract.
use lib.ListN.{drop}
use Rattle.rules.specs.Links.{proven_at}
use Rattle.node_addr.specs.Place.{pair_here}
use Rattle.links_entry.specs.Here.{paths_lent, path_lent, path_is}
use Rattle.links_entry.proofs.read.wire_proven_at.Goals as goal

pub wire_proven_path-requires : goal.wire_proven_path-requires
wire_proven_path-requires c = record { fit_paths = paths_lent c.requires.fit_links c.requires.i_bound; j_bound = path_lent c.requires.fit_links c.requires.i_bound c.requires.j_in_bounds; pair_in = c.requires.pair_in }

pub returns : goal.returns
returns c = path_is c.requires.fit_links c.requires.i_bound (proven_at (pair_here (drop c.args.from c.args.rec.now))) c.requires.j_in_bounds c.wire_proven_path.ensures
