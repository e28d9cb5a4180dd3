-- `call_msg1::msg1::numbered_msg1` meets its contract.
use mathlib.Core.Path.{sym}
use Rattle.input_call.specs.Hello.{hello_of}
use Rattle.table_layout.proofs.Told.{told_same}
use Rattle.call_contract.specs.Did.{space_result, ruled_ok, ruled_is}
use Rattle.call_admit.specs.Put.{yields_place, yields_some, yields_none}
use Rattle.call_msg1.specs.Msg1.{msg1_stored}
use Rattle.call_msg1.proofs.msg1.numbered_msg1.Goals as goal

pub repeat-requires : goal.repeat-requires
repeat-requires c =
    let e = msg1_stored _ (hello_of c.args.s.now c.args.h) _ _ (yields_some c.stored.ensures c.in-Some.is) in
    record { fit_table = c.requires.ready.fit; i_in_bounds = yields_place c.stored.ensures c.in-Some.is; space = space_result c.requires.space e }

pub new_msg1-requires-clause-t_value : goal.new_msg1-requires-clause-t_value
new_msg1-requires-clause-t_value c = yields_none c.stored.ensures c.in-None.is

pub returns-in-Some : goal.returns-in-Some
returns-in-Some c =
    ruled_is (ruled_ok (record { table = told_same c.requires.ready.fit; puts = c.repeat.ensures }))
    (sym (msg1_stored _ (hello_of c.args.s.now c.args.h) _ _ (yields_some c.stored.ensures c.in-Some.is)))
