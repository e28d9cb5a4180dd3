use Rattle.links_entry.specs.Here.{counts_is}
use Rattle.links_entry.proofs.paths.counts_at.Goals as goal

pub returns : goal.returns
returns c = counts_is c.requires.fit_paths c.requires.j_bound c.get_byte.ensures
