-- `links_entry::paths::pair_at` meets its contract.
use Rattle.links_entry.specs.Here.{pair_here_path, pathing}
use mathlib.Core.Path.{◌∙◌}
use Rattle.links_entry.proofs.paths.pair_at.Goals as goal

pub load_pair-requires : goal.load_pair-requires
load_pair-requires c = search pathing

pub returns : goal.returns
returns c = c.load_pair.ensures ∙ pair_here_path c.requires.fit_paths c.requires.j_bound
