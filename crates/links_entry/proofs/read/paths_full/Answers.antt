-- `links_entry::read::paths_full` meets its contract.
use Rattle.lib_laws.specs.Store.{entry_within}
use Rattle.links_entry.specs.Paths.{crowding_at, crowding_none}
use Rattle.links_entry.specs.View.{link_of}
use mathlib.Core.Path.{sym}
use Rattle.links_entry.proofs.read.paths_full.Goals as goal

pub paths_full_at-requires : goal.paths_full_at-requires
paths_full_at-requires c = record { fit_links = c.requires; i_bound = entry_within link_of c.requires _ _ (sym c.in-Some.ensures) }

pub returns-in-Some : goal.returns-in-Some
returns-in-Some c = crowding_at _ _ _ (sym c.in-Some.ensures) c.paths_full_at.ensures

pub returns-in-None : goal.returns-in-None
returns-in-None c = crowding_none _ _ _ (sym c.in-None.ensures)
