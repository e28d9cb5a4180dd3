use Rattle.held.specs.At.{installed_here}
use mathlib.Core.Path.{◌∙◌}
use Rattle.held.proofs.at.installed_at.Goals as goal

pub returns : goal.returns
returns c = c.get_be.ensures.value ∙ installed_here c.requires.fit_held c.requires.i_bound
