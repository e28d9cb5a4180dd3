-- `table_new::put_head` meets its contract.
use Rattle.table_new.specs.New.{head_shows}
use Rattle.table_new.proofs.put_head.Goals as goal

pub returns : goal.returns
returns c = record { fit_head = c.put_next.ensures.fit_head; shows = head_shows c.put_params.ensures.shows c.put_me.ensures.shows c.put_next.ensures.shows }
