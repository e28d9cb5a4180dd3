-- `legs_entry::at::link_at` meets its contract.
use Rattle.legs_entry.specs.At.{link_here}
use mathlib.Core.Path.{◌∙◌}
use Rattle.legs_entry.proofs.at.link_at.Goals as goal

pub returns : goal.returns
returns c = c.get_be.ensures.value ∙ link_here c.requires.fit_legs c.requires.i_bound
