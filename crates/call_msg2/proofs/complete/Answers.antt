-- `call_msg2::complete` meets its contract.
use Rattle.std.proofs.Common.{sym, ◌∙◌}
use Rattle.lib_laws.specs.Place.{place_within, find_at}
use Rattle.held.specs.View.{no_held}
use Rattle.call_contract.specs.Did.{space_is, did_is}
use Rattle.call_msg2.specs.Msg2.{msg2_room, msg2_dials, msg2_replaces, msg2_meets}
use Rattle.call_msg2.proofs.complete.Goals as goal

pub dialed-requires : goal.dialed-requires
dialed-requires c =
    let e = msg2_dials _ _ _ _ _ _ c.requires.t_value c.requires.i_value c.requires.named (sym c.find_held.ensures ∙ c.in_default.is) in
    record { fit_table = c.requires.ready.fit; i_in_bounds = place_within _ _ _ c.requires.t_value; t_len_bound = msg2_room _ _ _ c.requires.ready.sound c.requires.t_value; space = space_is c.requires.space e }

pub returns-in_default : goal.returns-in_default
returns-in_default c = did_is c.dialed.ensures (sym (msg2_dials _ _ _ _ _ _ c.requires.t_value c.requires.i_value c.requires.named (sym c.find_held.ensures ∙ c.in_default.is)))

pub held_epoch-old-requires : goal.held_epoch-old-requires
held_epoch-old-requires c = record { fit_table = c.requires.ready.fit; i_in_bounds = place_within _ _ _ (sym c.find_held.ensures ∙ c.in-Some.is) }

pub replace-requires : goal.replace-requires
replace-requires c =
    let v = sym c.find_held.ensures ∙ c.in-Some.is in
    let e = msg2_replaces _ _ _ _ _ _ c.requires.t_value c.requires.i_value c.requires.named _ v c.held_epoch-old.ensures c.if-old-epoch.true in
    record { ready = c.requires.ready; i_in_bounds = place_within _ _ _ c.requires.t_value; k_in_bounds = place_within _ _ _ v; t_value = find_at _ _ _ v no_held; space = space_is c.requires.space e }

pub returns-then-old-epoch : goal.returns-then-old-epoch
returns-then-old-epoch c =
    let v = sym c.find_held.ensures ∙ c.in-Some.is in
    did_is c.replace.ensures (sym (msg2_replaces _ _ _ _ _ _ c.requires.t_value c.requires.i_value c.requires.named _ v c.held_epoch-old.ensures c.if-old-epoch.true))

pub meet-requires : goal.meet-requires
meet-requires c =
    let v = sym c.find_held.ensures ∙ c.in-Some.is in
    let e = msg2_meets _ _ _ _ _ _ c.requires.t_value c.requires.i_value c.requires.named _ v c.held_epoch-old.ensures c.if-old-epoch.false in
    record { fit_table = c.requires.ready.fit; i_in_bounds = place_within _ _ _ c.requires.t_value; k_in_bounds = place_within _ _ _ v; space = space_is c.requires.space e }

pub returns : goal.returns
returns c =
    let v = sym c.find_held.ensures ∙ c.in-Some.is in
    did_is c.meet.ensures (sym (msg2_meets _ _ _ _ _ _ c.requires.t_value c.requires.i_value c.requires.named _ v c.held_epoch-old.ensures c.if-old-epoch.false))
