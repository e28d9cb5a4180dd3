-- `links_entry::paths::put_path` meets its contract.
use Rattle.lib_laws.specs.Store.{entry_within}
use Rattle.links_entry.specs.Paths.{room_for, set_new, set_old}
use Rattle.links_entry.specs.View.{path_of}
use Rattle.node_addr.specs.View.{view_pair}
use mathlib.Core.Path.{sym}
use Rattle.links_entry.proofs.paths.put_path.Goals as goal

pub set_state-requires : goal.set_state-requires
set_state-requires c = record { fit_paths = c.requires.fit_paths; j_bound = entry_within path_of c.requires.fit_paths _ _ (sym c.in-Some.ensures) }

pub push_path-requires : goal.push_path-requires
push_path-requires c = record { fit_paths = c.requires.fit_paths; s_bound = room_for (view_pair c.args.p) _ c.requires.fit_paths c.requires.s_value (sym c.in-None.ensures) }

pub returns-in-Some : goal.returns-in-Some
returns-in-Some c = record { fit_paths_2 = c.set_state.ensures.fit_paths_2; s_after = set_old _ _ _ (sym c.in-Some.ensures) c.set_state.ensures.s_after }

pub returns-in-None : goal.returns-in-None
returns-in-None c = record { fit_paths_2 = c.push_path.ensures.fit_paths_2; s_after = set_new _ _ _ (sym c.in-None.ensures) c.push_path.ensures.s_after }
