-- `links::write::cut_at` meets its contract.
use Rattle.links.specs.Change.{paths_are}
use Rattle.links_entry.specs.Here.{paths_lent}
use Rattle.node_addr.specs.View.{view_pair}
use Rattle.rules.specs.Base.{keep}
use Rattle.rules.specs.Links.{path_at}
use mathlib.Core.Bool.{not}
use Rattle.lib_laws.specs.Both.{both}
use mathlib.Core.Bool.{not}
use Rattle.links.proofs.write.cut_at.Goals as goal

pub drop_paths-requires : goal.drop_paths-requires
drop_paths-requires c = record { fit_paths = paths_lent c.requires.fit_links c.requires.i_bound }

pub returns : goal.returns
returns c = both (λ a b. record { fit_links_2 = a; s_after = b }) (paths_are (keep (λ w. not (path_at (view_pair c.args.p) w))) c.requires.fit_links c.requires.i_bound c.drop_paths.ensures.fit_paths_2 c.drop_paths.ensures.s_after)
