-- `legs_entry::at::answer_sent_at` meets its contract.
use Rattle.legs_entry.specs.At.{marked_here}
use mathlib.Core.Path.{◌∙◌}
use Rattle.legs_entry.proofs.at.answer_sent_at.Goals as goal

pub returns : goal.returns
returns c = c.get_flag.ensures ∙ marked_here c.requires.fit_legs c.requires.i_bound
