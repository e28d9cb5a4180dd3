-- `call_msg2::meet` meets its contract.
use Rattle.std.proofs.Common.{sym}
use Rattle.call_contract.specs.Did.{space_is, did_is}
use Rattle.call_msg2.specs.Msg2.{met_moves, met_stays}
use Rattle.call_msg2.proofs.meet.Goals as goal

pub moveto-requires : goal.moveto-requires
moveto-requires c = record { fit_table = c.requires.fit_table; i_in_bounds = c.requires.i_in_bounds; k_in_bounds = c.requires.k_in_bounds; space = space_is c.requires.space (met_moves _ _ _ _ _ c.own_or_first.ensures c.if-own_or_first.true) }

pub returns-then-own_or_first : goal.returns-then-own_or_first
returns-then-own_or_first c = did_is c.moveto.ensures (sym (met_moves _ _ _ _ _ c.own_or_first.ensures c.if-own_or_first.true))

pub keep-requires : goal.keep-requires
keep-requires c = record { fit_table = c.requires.fit_table; i_in_bounds = c.requires.i_in_bounds; space = space_is c.requires.space (met_stays _ _ _ _ _ c.own_or_first.ensures c.if-own_or_first.false) }

pub returns : goal.returns
returns c = did_is c.keep.ensures (sym (met_stays _ _ _ _ _ c.own_or_first.ensures c.if-own_or_first.false))
