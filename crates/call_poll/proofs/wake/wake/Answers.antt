-- `call_poll::wake::wake` meets its contract.
use Rattle.call_poll.specs.Wake.{wake_room, wake_puts}
use Rattle.call_poll.proofs.wake.wake.Goals as goal

pub put_wake-requires : goal.put_wake-requires
put_wake-requires c = wake_room c.next_wake.ensures c.requires.space

pub returns : goal.returns
returns c = wake_puts c.next_wake.ensures c.put_wake.ensures
