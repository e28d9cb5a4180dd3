-- `call_remove::peer::remove_at` meets its contract.
use mathlib.Core.Path.{◌≡◌, sym, ◌∙◌}
use Rattle.call_contract.specs.Did.{wrote_length, puts_length}
use Rattle.call_remove.specs.Peer.{remove_room, retire_room, retry_room, removed_retry, removed_once}
use lib.ListN.{length}
use Rattle.call_remove.proofs.peer.remove_at.Goals as goal

pub count_silence-requires : goal.count_silence-requires
count_silence-requires c = record { ready = c.requires.ready; i_in_bounds = c.requires.i_in_bounds; t_value = c.requires.t_value }

pub drop_held-requires : goal.drop_held-requires
drop_held-requires c = c.count_silence.ensures.fit

pub put_remove-a-requires : goal.put_remove-a-requires
put_remove-a-requires c =
    let p : length c.args.peer.0 ≡ 16 = assumption c.well_formed in
    remove_room _ _ _ _ _ p c.requires.space

pub retire-b-requires : goal.retire-b-requires
retire-b-requires c = record { fit_table = c.drop_held.ensures.fit; space = retire_room _ _ _ _ _ c.held_link-n.ensures c.closes-lists.ensures c.count_silence.ensures c.drop_held.ensures c.requires.space c.put_remove-a.ensures }

pub put_retry-requires : goal.put_retry-requires
put_retry-requires c =
    let p : length c.args.peer.0 ≡ 16 = assumption c.well_formed in
    retry_room _ _ _ _ _ c.held_link-n.ensures c.closes-lists.ensures c.count_silence.ensures c.drop_held.ensures c.requires.space c.put_remove-a.ensures c.retire-b.ensures c.retries-again.ensures p c.if-again.true

pub shape_of-t-then-again : goal.shape_of-t-then-again
shape_of-t-then-again c = c.retire-b.ensures.table.fit.size ∙ sym c.requires.ready.fit.size

pub shape_of-out-then-again : goal.shape_of-out-then-again
shape_of-out-then-again c = wrote_length c.put_retry.ensures ∙ puts_length c.retire-b.ensures.puts ∙ wrote_length c.put_remove-a.ensures

pub returns-then-again : goal.returns-then-again
returns-then-again c = removed_retry _ _ _ _ _ c.held_link-n.ensures c.closes-lists.ensures c.count_silence.ensures c.drop_held.ensures c.requires.space c.put_remove-a.ensures c.retire-b.ensures c.retries-again.ensures c.if-again.true c.put_retry.ensures

pub shape_of-t : goal.shape_of-t
shape_of-t c = c.retire-b.ensures.table.fit.size ∙ sym c.requires.ready.fit.size

pub shape_of-out : goal.shape_of-out
shape_of-out c = puts_length c.retire-b.ensures.puts ∙ wrote_length c.put_remove-a.ensures

pub returns : goal.returns
returns c = removed_once _ _ _ _ _ c.held_link-n.ensures c.closes-lists.ensures c.count_silence.ensures c.drop_held.ensures c.requires.space c.put_remove-a.ensures c.retire-b.ensures c.retries-again.ensures c.if-again.false
