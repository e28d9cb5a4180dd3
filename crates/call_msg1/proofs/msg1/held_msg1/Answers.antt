-- `call_msg1::msg1::held_msg1` meets its contract.
use mathlib.Core.Path.{sym}
use Rattle.input_call.specs.Hello.{hello_of}
use Rattle.table_layout.proofs.Told.{told_same}
use Rattle.call_contract.specs.Did.{space_result, ruled_ok, ruled_is}
use Rattle.call_msg1.specs.Msg1.{msg1_restart, msg1_rekey}
use Rattle.call_msg1.proofs.msg1.held_msg1.Goals as goal

pub admit_held-requires-clause-space : goal.admit_held-requires-clause-space
admit_held-requires-clause-space c =
    let e = msg1_restart _ (hello_of c.args.s.now c.args.h) _ _ c.requires.t_value c.requires.t_value_2 c.held_epoch-e.ensures c.if-e-h.true in
    space_result c.requires.space e

pub returns-then-e-h : goal.returns-then-e-h
returns-then-e-h c = ruled_is c.admit_held.ensures (sym (msg1_restart _ (hello_of c.args.s.now c.args.h) _ _ c.requires.t_value c.requires.t_value_2 c.held_epoch-e.ensures c.if-e-h.true))

pub rekey-requires-clause-space : goal.rekey-requires-clause-space
rekey-requires-clause-space c =
    let e = msg1_rekey _ (hello_of c.args.s.now c.args.h) _ _ c.requires.t_value c.requires.t_value_2 c.held_epoch-e.ensures c.if-e-h.false in
    space_result c.requires.space e

pub returns : goal.returns
returns c =
    ruled_is (ruled_ok (record { table = told_same c.requires.ready.fit; puts = c.rekey.ensures }))
    (sym (msg1_rekey _ (hello_of c.args.s.now c.args.h) _ _ c.requires.t_value c.requires.t_value_2 c.held_epoch-e.ensures c.if-e-h.false))
