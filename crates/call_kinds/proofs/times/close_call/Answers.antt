-- `call_kinds::times::close_call` meets its contract.
use Rattle.std.proofs.Common.{ap}
use Rattle.rules.specs.Settle.{step}
use Rattle.rules.specs.Data.{Call}
use Rattle.std.specs.Prelude.{option_map}
use Rattle.refusal.specs.Passed.{passed_missing}
use Rattle.call_contract.specs.Did.{ruled_ok}
use Rattle.call_kinds.specs.Ask.{unread, read_space, read_done}
use Rattle.call_kinds.proofs.times.close_call.Goals as goal

pub returns-in_err-ok_or : goal.returns-in_err-ok_or
returns-in_err-ok_or c = rw (passed_missing c.from_residual.ensures.1 c.in_err-ok_or.ensures.value c.in_err-ok_or.ensures.ok_part) (unread c.requires (c.no_fields.ensures Call.Close) (ap (option_map _) c.in_err-ok_or.ensures.ok_part))

pub close-requires : goal.close-requires
unfolding step
close-requires c = record { ready = c.requires.ready; space = read_space c.requires (c.no_fields.ensures Call.Close) (ap (option_map _) c.in_ok-ok_or.ensures.ok_part) }

pub returns : goal.returns
unfolding step
returns c = read_done c.requires (c.no_fields.ensures Call.Close) (ap (option_map _) c.in_ok-ok_or.ensures.ok_part) (ruled_ok c.close.ensures)
