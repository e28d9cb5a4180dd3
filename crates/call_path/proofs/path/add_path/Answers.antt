-- `call_path::path::add_path` meets its contract.
use mathlib.Core.Path.{sym, ◌∙◌}
use Rattle.call_path.specs.Path.{path_refused, path_added}
use Rattle.call_path.proofs.path.add_path.Goals as goal

pub returns-then-paths_full : goal.returns-then-paths_full
returns-then-paths_full c = path_refused _ _ _ c.requires.fit_table c.paths_full.ensures c.if-paths_full.true

pub set_path-requires : goal.set_path-requires
set_path-requires c = record { fit_table = c.requires.fit_table; t_value = sym c.paths_full.ensures ∙ c.if-paths_full.false }

pub returns : goal.returns
returns c = path_added _ _ _ c.paths_full.ensures c.if-paths_full.false c.set_path.ensures
