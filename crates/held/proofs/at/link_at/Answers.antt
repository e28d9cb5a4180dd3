use Rattle.held.specs.At.{link_here}
use mathlib.Core.Path.{◌∙◌}
use Rattle.held.proofs.at.link_at.Goals as goal

pub returns : goal.returns
returns c = c.get_be.ensures.value ∙ link_here c.requires.fit_held c.requires.i_bound
