-- `legs_entry::at::lease_at` meets its contract.
use Rattle.legs_entry.specs.At.{lease_here}
use mathlib.Core.Path.{◌∙◌}
use Rattle.legs_entry.proofs.at.lease_at.Goals as goal

pub returns : goal.returns
returns c = c.get_be.ensures.value ∙ lease_here c.requires.fit_legs c.requires.i_bound
