-- `table_query::full` meets its contract.
use mathlib.Core.Path.{refl}
use Rattle.table_query.specs.Ask.{full_is}
use Rattle.table_query.proofs.full.Goals as goal

pub returns : goal.returns
returns c = full_is _ c.pending_of-m.ensures c.answering-n.ensures refl
