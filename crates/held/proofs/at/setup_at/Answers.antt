use Rattle.held.specs.At.{setup_here}
use mathlib.Core.Path.{◌∙◌}
use Rattle.held.proofs.at.setup_at.Goals as goal

pub returns : goal.returns
returns c = c.load_optional.ensures ∙ setup_here c.requires.fit_held c.requires.i_bound
