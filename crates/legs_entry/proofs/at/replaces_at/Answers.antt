-- `legs_entry::at::replaces_at` meets its contract.
use Rattle.legs_entry.specs.At.{replaces_here}
use mathlib.Core.Path.{◌∙◌}
use Rattle.legs_entry.proofs.at.replaces_at.Goals as goal

pub returns : goal.returns
returns c = c.get_flag.ensures ∙ replaces_here c.requires.fit_legs c.requires.i_bound
