-- `call_admit::displace::displace` meets its contract.
use mathlib.Core.Path.{sym}
use Rattle.call_contract.specs.Did.{space_left, space_right, space_is, did_is, did_then}
use Rattle.call_admit.specs.Displace.{stamped_ready, stamped_within, stamped_at, stamped_removed, gone_room, gone_next}
use Rattle.call_admit.proofs.displace.displace.Goals as goal

pub remove_at-a-requires : goal.remove_at-a-requires
remove_at-a-requires c =
    let ready = stamped_ready _ c.requires.ready.sound _ c.ranges.clock.fits c.args.h.peer.0 c.args.i c.requires.i_in_bounds c.requires.t_value c.stamp_at.ensures in
    let within = stamped_within _ c.requires.ready.sound _ c.ranges.clock.fits c.args.h.peer.0 c.args.i c.requires.i_in_bounds c.requires.t_value c.stamp_at.ensures in
    let is = stamped_at _ c.requires.ready.sound _ c.ranges.clock.fits c.args.h.peer.0 c.args.i c.requires.i_in_bounds c.requires.t_value c.stamp_at.ensures in
    let same = stamped_removed _ c.requires.ready.sound _ c.ranges.clock.fits c.args.h.peer.0 c.args.i c.requires.i_in_bounds c.requires.t_value c.stamp_at.ensures c.displaces-why.ensures in
    record { ready = ready; i_in_bounds = within; t_value = is; space = space_is (space_left _ _ c.requires.space) (sym same) }

pub answer-requires : goal.answer-requires
answer-requires c =
    let d = did_is c.remove_at-a.ensures (stamped_removed _ c.requires.ready.sound _ c.ranges.clock.fits c.args.h.peer.0 c.args.i c.requires.i_in_bounds c.requires.t_value c.stamp_at.ensures c.displaces-why.ensures) in
    let room = gone_room _ c.requires.ready.sound _ c.ranges.clock.fits c.args.h.peer.0 c.args.i c.requires.i_in_bounds c.requires.t_value _ d in
    record { fit_table = d.table.fit; fit_hello = c.requires.fit_hello; t_len_bound = room.0; t_len_bound_2 = room.1; t_bound = gone_next _ c.requires.ready.sound _ c.ranges.clock.fits c.args.h.peer.0 c.args.i c.requires.i_in_bounds c.requires.t_value _ d c.requires.t_bound; space = space_right _ _ c.requires.space d }

pub returns : goal.returns
returns c =
    let same = stamped_removed _ c.requires.ready.sound _ c.ranges.clock.fits c.args.h.peer.0 c.args.i c.requires.i_in_bounds c.requires.t_value c.stamp_at.ensures c.displaces-why.ensures in
    did_then _ _ (did_is c.remove_at-a.ensures same) c.answer.ensures
