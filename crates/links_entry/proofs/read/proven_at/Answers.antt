-- `links_entry::read::proven_at` meets its contract.
use Rattle.links_entry.specs.Here.{paths_lent, paths_show}
use Rattle.node_addr.specs.View.{view_pair}
use Rattle.rules.specs.Base.{any}
use Rattle.rules.specs.Links.{proven_at}
use mathlib.Core.Path.{◌∙◌, ap}
use Rattle.std.proofs.Common.{ap}
use Rattle.links_entry.proofs.read.proven_at.Goals as goal

pub proves-requires : goal.proves-requires
proves-requires c = paths_lent c.requires.fit_links c.requires.i_bound

pub returns : goal.returns
returns c = c.proves.ensures ∙ ap (any (proven_at (view_pair c.args.p))) (paths_show c.requires.fit_links c.requires.i_bound)
