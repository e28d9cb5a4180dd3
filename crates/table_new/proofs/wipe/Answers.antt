-- `table_new::wipe` meets its contract.
use mathlib.Core.Path.{refl}
use Rattle.table_new.specs.New.{blank_cleared}
use Rattle.table_new.proofs.wipe.Goals as goal

pub returns : goal.returns
returns c = blank_cleared c.requires refl c.clear.ensures
