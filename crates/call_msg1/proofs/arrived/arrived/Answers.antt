-- `call_msg1::arrived::arrived` meets its contract.
use Rattle.call_admit.specs.Put.{yields_some, yields_none}
use Rattle.call_msg1.specs.Arrived.{again_room, again_did, new_space, new_did}
use Rattle.call_msg1.proofs.arrived.arrived.Goals as goal

pub put_msg2-requires-clause-i_in_bounds_2 : goal.put_msg2-requires-clause-i_in_bounds_2
put_msg2-requires-clause-i_in_bounds_2 c = again_room _ _ _ (yields_some c.stored.ensures c.in-Some.is) c.requires.space

pub put_full-requires-clause-space : goal.put_full-requires-clause-space
put_full-requires-clause-space c = new_space _ _ _ (yields_none c.stored.ensures c.in-None.is) c.requires.space

pub returns-in-Some : goal.returns-in-Some
returns-in-Some c = again_did _ _ _ (yields_some c.stored.ensures c.in-Some.is) c.requires.fit_table c.put_msg2.ensures

pub returns-in-None : goal.returns-in-None
returns-in-None c = new_did _ _ _ (yields_none c.stored.ensures c.in-None.is) c.requires.fit_table c.put_full.ensures
