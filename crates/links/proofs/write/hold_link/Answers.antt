-- `links::write::hold_link` meets its contract.
use Rattle.lib_laws.specs.Store.{entry_within}
use Rattle.links.specs.Change.{hold_done, hold_none}
use Rattle.links_entry.specs.View.{link_of}
use mathlib.Core.Path.{sym}
use Rattle.links.proofs.write.hold_link.Goals as goal

pub hold_at-requires : goal.hold_at-requires
hold_at-requires c = record { fit_links = c.requires; i_bound = entry_within link_of c.requires _ _ (sym c.in-Some.ensures) }

pub returns-in-Some : goal.returns-in-Some
returns-in-Some c = record { fit_links = c.hold_at.ensures.fit_links_2; s_after = hold_done _ _ (sym c.in-Some.ensures) _ c.hold_at.ensures.s_after }

pub returns-in_default : goal.returns-in_default
returns-in_default c = record { fit_links = c.requires; s_after = hold_none _ _ (sym c.in_default.ensures) _ }
