-- `call_msg1::msg1::rekey` meets its contract.
use Rattle.call_msg1.specs.Msg1.{attributed_here, rekey_room, rekey_free, rekey_puts}
use borrow.Author.Rules.{rules}
use Rattle.call_msg1.proofs.msg1.rekey.Goals as goal

pub put_rekey-a-requires : goal.put_rekey-a-requires
put_rekey-a-requires c = rekey_room (attributed_here _ _ c.attributed-on_link.ensures c.load_wire_pair-pair.ensures) (search (rules, c.well_formed.1.1.1.1.1.0)) c.requires.space

pub put_free-requires : goal.put_free-requires
put_free-requires c = rekey_free (attributed_here _ _ c.attributed-on_link.ensures c.load_wire_pair-pair.ensures) c.requires.space c.put_rekey-a.ensures

pub returns : goal.returns
returns c = rekey_puts (attributed_here _ _ c.attributed-on_link.ensures c.load_wire_pair-pair.ensures) c.put_rekey-a.ensures c.put_free.ensures
