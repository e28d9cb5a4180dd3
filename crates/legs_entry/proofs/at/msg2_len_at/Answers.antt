-- `legs_entry::at::msg2_len_at` meets its contract.
use Rattle.legs_entry.specs.At.{msg2_here}
use Rattle.lib_laws.specs.Cell.{byte_here}
use mathlib.Core.Path.{◌∙◌}
use Rattle.legs_entry.proofs.at.msg2_len_at.Goals as goal

pub returns : goal.returns
returns c = msg2_here c.requires.fit_legs c.requires.i_bound (c.get_byte.ensures ∙ byte_here c.args.s.now _)
