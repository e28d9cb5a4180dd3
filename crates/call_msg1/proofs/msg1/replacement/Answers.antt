-- `call_msg1::msg1::replacement` meets its contract.
use mathlib.Core.Path.{sym, ◌∙◌}
use Rattle.input_call.specs.Hello.{hello_of}
use Rattle.call_contract.specs.Did.{space_place, space_result, ruled_refused, ruled_is}
use Rattle.call_limits.specs.Enter.{numbering_refused, numbering_passed, next_room}
use Rattle.call_msg1.specs.Msg1.{step_replacement}
use Rattle.call_msg1.proofs.msg1.replacement.Goals as goal

pub returns-then-numbers_exhausted : goal.returns-then-numbers_exhausted
returns-then-numbers_exhausted c =
    ruled_is (ruled_refused 4 c.requires.ready.fit (space_place c.requires.space))
    (sym (step_replacement _ (hello_of c.args.s.now c.args.h) _ ∙ numbering_refused _ c.numbers_exhausted.ensures _ c.if-numbers_exhausted.true))

pub admit-requires : goal.admit-requires
admit-requires c =
    let e = step_replacement _ (hello_of c.args.s.now c.args.h) _ ∙ numbering_passed _ c.numbers_exhausted.ensures _ c.if-numbers_exhausted.false in
    record { ready = c.requires.ready; fit_hello = c.requires.fit_hello; t_bound = next_room _ c.numbers_exhausted.ensures c.requires.ready.sound c.if-numbers_exhausted.false; space = space_result c.requires.space e }

pub returns : goal.returns
returns c = ruled_is c.admit.ensures (sym (step_replacement _ (hello_of c.args.s.now c.args.h) _ ∙ numbering_passed _ c.numbers_exhausted.ensures _ c.if-numbers_exhausted.false))
