-- `call_step::step` meets its contract.
use Rattle.call_kinds.specs.Ask.{no_kind_answers}
use Rattle.call_step.proofs.Coded.{asked_as, answers_as, decoded, undecoded}
use Rattle.call_step.proofs.step.Goals as goal

pub kind_step-requires : goal.kind_step-requires
kind_step-requires c = asked_as (decoded c.try_from.ensures c.in-Ok.is) c.requires

pub returns-in-Ok : goal.returns-in-Ok
returns-in-Ok c = answers_as (decoded c.try_from.ensures c.in-Ok.is) c.kind_step.ensures

pub returns-in-Err : goal.returns-in-Err
returns-in-Err c = no_kind_answers _ (undecoded _ c.try_from.ensures c.in-Err.is) c.requires
