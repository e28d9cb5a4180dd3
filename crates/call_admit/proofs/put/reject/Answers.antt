-- `call_admit::put::reject` meets its contract.
use Rattle.call_admit.specs.Put.{reject_room, free_room, reject_puts}
use borrow.Author.Rules.{rules}
use Rattle.call_admit.proofs.put.reject.Goals as goal

pub put_reject-a-requires : goal.put_reject-a-requires
put_reject-a-requires c = reject_room c.requires (search rules)

pub put_free-requires : goal.put_free-requires
put_free-requires c = free_room c.requires c.put_reject-a.ensures

pub returns : goal.returns
returns c = reject_puts c.put_reject-a.ensures c.put_free.ensures
