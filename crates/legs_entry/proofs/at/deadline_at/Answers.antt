-- `legs_entry::at::deadline_at` meets its contract.
use Rattle.legs_entry.specs.At.{deadline_here}
use mathlib.Core.Path.{◌∙◌}
use Rattle.legs_entry.proofs.at.deadline_at.Goals as goal

pub returns : goal.returns
returns c = c.get_be.ensures.value ∙ deadline_here c.requires.fit_legs c.requires.i_bound
