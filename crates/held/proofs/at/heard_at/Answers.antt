use Rattle.held.specs.At.{heard_here}
use mathlib.Core.Path.{◌∙◌}
use Rattle.held.proofs.at.heard_at.Goals as goal

pub returns : goal.returns
returns c = c.get_flag.ensures ∙ heard_here c.requires.fit_held c.requires.i_bound
