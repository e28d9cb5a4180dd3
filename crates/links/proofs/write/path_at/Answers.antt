-- `links::write::path_at` meets its contract.
use Rattle.links.specs.Change.{paths_are}
use Rattle.links_entry.specs.Here.{paths_lent, paths_show}
use Rattle.links_entry.specs.View.{full, view_proven}
use Rattle.node_addr.specs.View.{view_pair}
use Rattle.rules.specs.Links.{set_path}
use mathlib.Core.Path.{◌∙◌, ap}
use Rattle.lib_laws.specs.Both.{both}
use Rattle.std.proofs.Common.{ap}
use Rattle.links.proofs.write.path_at.Goals as goal

pub put_path-requires : goal.put_path-requires
put_path-requires c = record { fit_paths = paths_lent c.requires.fit_links c.requires.i_bound; s_value = ap (full (view_pair c.args.p)) (paths_show c.requires.fit_links c.requires.i_bound) ∙ c.requires.no_link_value }

pub returns : goal.returns
returns c = both (λ a b. record { fit_links_2 = a; s_after = b }) (paths_are (set_path (view_pair c.args.p) (view_proven c.args.v)) c.requires.fit_links c.requires.i_bound c.put_path.ensures.fit_paths_2 c.put_path.ensures.s_after)
