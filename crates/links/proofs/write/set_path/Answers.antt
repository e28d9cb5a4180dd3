-- `links::write::set_path` meets its contract.
use Rattle.lib_laws.specs.Store.{entry_within}
use Rattle.links_entry.specs.Paths.{uncrowded}
use Rattle.links.specs.Change.{path_done, path_none}
use Rattle.links_entry.specs.View.{link_of}
use mathlib.Core.Path.{sym}
use Rattle.links.proofs.write.set_path.Goals as goal

pub path_at-requires : goal.path_at-requires
path_at-requires c = record { fit_links = c.requires.fit_links; i_bound = entry_within link_of c.requires.fit_links _ _ (sym c.in-Some.ensures); no_link_value = uncrowded _ _ _ (sym c.in-Some.ensures) c.requires.s_value }

pub returns-in-Some : goal.returns-in-Some
returns-in-Some c = record { fit_links_2 = c.path_at.ensures.fit_links_2; s_after = path_done _ _ (sym c.in-Some.ensures) _ _ c.path_at.ensures.s_after }

pub returns-in_default : goal.returns-in_default
returns-in_default c = record { fit_links_2 = c.requires.fit_links; s_after = path_none _ _ (sym c.in_default.ensures) _ _ }
