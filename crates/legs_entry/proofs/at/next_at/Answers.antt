-- `legs_entry::at::next_at` meets its contract.
use Rattle.legs_entry.specs.At.{next_here}
use mathlib.Core.Path.{◌∙◌}
use Rattle.legs_entry.proofs.at.next_at.Goals as goal

pub returns : goal.returns
returns c = c.get_option.ensures ∙ next_here c.requires.fit_legs c.requires.i_bound
