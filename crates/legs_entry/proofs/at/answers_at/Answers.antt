-- `legs_entry::at::answers_at` meets its contract.
use Rattle.legs_entry.specs.At.{answers_here}
use mathlib.Core.Path.{◌∙◌}
use Rattle.legs_entry.proofs.at.answers_at.Goals as goal

pub returns : goal.returns
returns c = c.get_flag.ensures ∙ answers_here c.requires.fit_legs c.requires.i_bound
