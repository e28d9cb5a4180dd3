-- `table_new::start` meets its contract.
use Rattle.table_new.specs.New.{new_told}
use Rattle.table_new.proofs.start.Goals as goal

pub returns : goal.returns
returns c = new_told c.wipe.ensures c.put_head.ensures.fit_head c.put_head.ensures.shows
