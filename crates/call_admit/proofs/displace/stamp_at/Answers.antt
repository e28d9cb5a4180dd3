-- `call_admit::displace::stamp_at` meets its contract.
use Rattle.table_layout.proofs.Told.{told_same}
use Rattle.call_contract.specs.Sound.{held_memory}
use Rattle.call_admit.specs.Displace.{stamp_heard, stamp_unheard}
use Rattle.call_admit.proofs.displace.stamp_at.Goals as goal

pub stamp-requires-clause-room : goal.stamp-requires-clause-room
stamp-requires-clause-room c = held_memory c.requires.ready.sound c.args.peer.0 _ c.requires.t_value

pub returns-then-held_heard : goal.returns-then-held_heard
returns-then-held_heard c = stamp_heard _ c.args.peer.0 _ _ c.held_heard.ensures c.requires.t_value c.if-held_heard.true c.stamp.ensures

pub returns-else-held_heard : goal.returns-else-held_heard
returns-else-held_heard c = stamp_unheard _ c.args.peer.0 _ _ c.held_heard.ensures c.if-held_heard.false (told_same c.requires.ready.fit)
