-- `call_admit::admit::admit_new` meets its contract.
use mathlib.Core.Path.{sym}
use Rattle.input_call.specs.Hello.{hello_of}
use Rattle.table_layout.proofs.Told.{told_same}
use Rattle.call_contract.specs.Did.{space_result, ruled_ok, ruled_is}
use Rattle.call_admit.specs.Ruling.{admits, denies}
use Rattle.call_admit.specs.Admit.{new_rejected, new_enters}
use Rattle.call_admit.proofs.admit.admit_new.Goals as goal

pub enter-requires-clause-space : goal.enter-requires-clause-space
enter-requires-clause-space c =
    let y = hello_of c.args.s.now c.args.h in
    let e = new_enters _ y _ c.requires.t_value (admits _ _ y _ c.denied_new.ensures c.in-Ok.is) in
    space_result c.requires.space e

pub reject-requires : goal.reject-requires
reject-requires c =
    let y = hello_of c.args.s.now c.args.h in
    space_result c.requires.space (new_rejected _ y _ c.requires.t_value (denies _ _ y _ c.denied_new.ensures c.in-Err.is))

pub returns-in-Ok : goal.returns-in-Ok
returns-in-Ok c =
    let y = hello_of c.args.s.now c.args.h in
    ruled_is c.enter.ensures (sym (new_enters _ y _ c.requires.t_value (admits _ _ y _ c.denied_new.ensures c.in-Ok.is)))

pub returns-in-Err : goal.returns-in-Err
returns-in-Err c =
    let y = hello_of c.args.s.now c.args.h in
    ruled_is (ruled_ok (record { table = told_same c.requires.ready.fit; puts = c.reject.ensures }))
    (sym (new_rejected _ y _ c.requires.t_value (denies _ _ y _ c.denied_new.ensures c.in-Err.is)))
