-- `call_dial::open_dial` meets its contract.
use Rattle.call_dial.specs.Dial.{dial_room, dial_did}
use Rattle.call_dial.proofs.open_dial.Goals as goal

pub put_opened-requires : goal.put_opened-requires
put_opened-requires c = dial_room _ _ _ _ _ _ c.requires.space

pub returns : goal.returns
returns c = dial_did _ _ _ _ _ _ c.next_no-n.ensures c.params_of-c.ensures c.dial_leg-leg.ensures c.open_leg.ensures c.put_opened.ensures
