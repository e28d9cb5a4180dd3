-- `links_entry::read::paths_full_at` meets its contract.
use Rattle.links_entry.specs.Here.{paths_lent, paths_show}
use Rattle.links_entry.specs.View.{full}
use Rattle.node_addr.specs.View.{view_pair}
use mathlib.Core.Path.{◌∙◌, ap}
use Rattle.std.proofs.Common.{ap}
use Rattle.links_entry.proofs.read.paths_full_at.Goals as goal

pub full_at-requires : goal.full_at-requires
full_at-requires c = paths_lent c.requires.fit_links c.requires.i_bound

pub returns : goal.returns
returns c = c.full_at.ensures ∙ ap (full (view_pair c.args.p)) (paths_show c.requires.fit_links c.requires.i_bound)
