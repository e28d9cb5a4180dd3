-- `call_remove::peer::retire` meets its contract.
use mathlib.Core.Path.{sym, ◌∙◌}
use Rattle.call_remove.specs.Peer.{all_listed, none_listed, retires_room, retires_did}
use Rattle.call_remove.proofs.peer.retire.Goals as goal

pub put_retire-requires : goal.put_retire-requires
put_retire-requires c = retires_room _ _ _ (all_listed c.if-lists.true c.retire_link-c.ensures.result_value) c.requires.space

pub shape_of-t-then-lists : goal.shape_of-t-then-lists
shape_of-t-then-lists c = c.retire_link-c.ensures.told.fit.size ∙ sym c.requires.fit_table.size

pub returns-then-lists : goal.returns-then-lists
returns-then-lists c = retires_did _ _ _ (all_listed c.if-lists.true c.retire_link-c.ensures.result_value) c.retire_link-c.ensures.told c.put_retire.ensures

pub put_retire-requires-2 : goal.put_retire-requires-2
put_retire-requires-2 c = retires_room _ _ _ (none_listed _ c.if-lists.false c.no_closes.ensures) c.requires.space

pub shape_of-t : goal.shape_of-t
shape_of-t c = c.drop_link.ensures.fit.size ∙ sym c.requires.fit_table.size

pub returns : goal.returns
returns c = retires_did _ _ _ (none_listed _ c.if-lists.false c.no_closes.ensures) c.drop_link.ensures c.put_retire-2.ensures
