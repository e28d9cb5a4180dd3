-- `call_admit::admit::admit_held` meets its contract.
use mathlib.Core.Path.{sym}
use Rattle.gates_types.specs.View.{source_of}
use Rattle.input_call.specs.Hello.{hello_of}
use Rattle.table_layout.proofs.Told.{told_same}
use Rattle.call_contract.specs.Did.{space_result, ruled_ok, ruled_is}
use Rattle.call_admit.specs.Ruling.{admits, denies}
use Rattle.call_admit.specs.Admit.{held_rejected, held_displaced}
use Rattle.call_admit.proofs.admit.admit_held.Goals as goal

pub displace-requires-clause-space : goal.displace-requires-clause-space
displace-requires-clause-space c =
    let y = hello_of c.args.s.now c.args.h in
    let e = held_displaced _ y _ (source_of c.args.source) c.requires.t_value (admits _ _ y _ c.denied.ensures c.in-Ok.is) in
    space_result c.requires.space e

pub reject-requires : goal.reject-requires
reject-requires c =
    let y = hello_of c.args.s.now c.args.h in
    space_result c.requires.space (held_rejected _ y _ (source_of c.args.source) c.requires.t_value (denies _ _ y _ c.denied.ensures c.in-Err.is))

pub returns-in-Ok : goal.returns-in-Ok
returns-in-Ok c =
    let y = hello_of c.args.s.now c.args.h in
    ruled_is (ruled_ok c.displace.ensures) (sym (held_displaced _ y _ (source_of c.args.source) c.requires.t_value (admits _ _ y _ c.denied.ensures c.in-Ok.is)))

pub returns-in-Err : goal.returns-in-Err
returns-in-Err c =
    let y = hello_of c.args.s.now c.args.h in
    ruled_is (ruled_ok (record { table = told_same c.requires.ready.fit; puts = c.reject.ensures }))
    (sym (held_rejected _ y _ (source_of c.args.source) c.requires.t_value (denies _ _ y _ c.denied.ensures c.in-Err.is)))
