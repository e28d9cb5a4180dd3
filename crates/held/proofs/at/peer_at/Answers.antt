use Rattle.held.specs.At.{peer_here}
use mathlib.Core.Path.{◌∙◌}
use Rattle.held.proofs.at.peer_at.Goals as goal

pub returns : goal.returns
returns c = c.load_fixed.ensures ∙ peer_here c.requires.fit_held c.requires.i_bound
