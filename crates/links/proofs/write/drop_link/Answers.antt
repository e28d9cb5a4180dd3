-- `links::write::drop_link` meets its contract.
use Rattle.lib_laws.specs.Store.{entry_within}
use Rattle.links.specs.Change.{drop_done, drop_none}
use Rattle.links_entry.specs.View.{link_of}
use mathlib.Core.Path.{sym}
use Rattle.links.proofs.write.drop_link.Goals as goal

pub remove_link-requires : goal.remove_link-requires
remove_link-requires c = record { fit_links = c.requires; i_bound = entry_within link_of c.requires _ _ (sym c.in-Some.ensures) }

pub returns-in-Some : goal.returns-in-Some
returns-in-Some c = record { fit_links = c.remove_link.ensures.fit_links_2; s_after = drop_done _ _ (sym c.in-Some.ensures) c.remove_link.ensures.s_after }

pub returns-in_default : goal.returns-in_default
returns-in_default c = record { fit_links = c.requires; s_after = drop_none _ _ (sym c.in_default.ensures) }
