-- `legs_entry::at::epoch_at` meets its contract.
use Rattle.legs_entry.specs.At.{epoch_here}
use mathlib.Core.Path.{◌∙◌}
use Rattle.legs_entry.proofs.at.epoch_at.Goals as goal

pub returns : goal.returns
returns c = c.get_be.ensures.value ∙ epoch_here c.requires.fit_legs c.requires.i_bound
