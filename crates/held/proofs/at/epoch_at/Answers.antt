use Rattle.held.specs.At.{epoch_here}
use mathlib.Core.Path.{◌∙◌}
use Rattle.held.proofs.at.epoch_at.Goals as goal

pub returns : goal.returns
returns c = c.get_be.ensures.value ∙ epoch_here c.requires.fit_held c.requires.i_bound
