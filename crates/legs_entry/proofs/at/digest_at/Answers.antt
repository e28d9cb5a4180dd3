-- `legs_entry::at::digest_at` meets its contract.
use Rattle.legs_entry.specs.At.{digest_here}
use mathlib.Core.Path.{◌∙◌}
use Rattle.legs_entry.proofs.at.digest_at.Goals as goal

pub returns : goal.returns
returns c = c.load_fixed.ensures ∙ digest_here c.requires.fit_legs c.requires.i_bound
