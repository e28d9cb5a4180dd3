-- `legs_entry::at::peer_at` meets its contract.
use Rattle.legs_entry.specs.At.{peer_here}
use mathlib.Core.Path.{◌∙◌}
use Rattle.legs_entry.proofs.at.peer_at.Goals as goal

pub returns : goal.returns
returns c = c.load_optional.ensures ∙ peer_here c.requires.fit_legs c.requires.i_bound
