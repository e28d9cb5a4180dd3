use Rattle.held.specs.At.{last_here}
use mathlib.Core.Path.{◌∙◌}
use Rattle.held.proofs.at.last_at.Goals as goal

pub returns : goal.returns
returns c = c.get_option.ensures ∙ last_here c.requires.fit_held c.requires.i_bound
