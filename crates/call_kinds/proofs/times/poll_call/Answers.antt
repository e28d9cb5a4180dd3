-- `call_kinds::times::poll_call` meets its contract.
use Rattle.std.proofs.Common.{ap}
use Rattle.rules.specs.Settle.{step}
use Rattle.rules.specs.Data.{Call}
use Rattle.std.specs.Prelude.{option_map}
use Rattle.refusal.specs.Passed.{passed_missing}
use Rattle.call_contract.specs.Did.{ruled_ok}
use Rattle.call_kinds.specs.Ask.{unread, read_space, read_done}
use Rattle.call_kinds.proofs.times.poll_call.Goals as goal

pub returns-in_err-ok_or : goal.returns-in_err-ok_or
returns-in_err-ok_or c = rw (passed_missing c.from_residual.ensures.1 c.in_err-ok_or.ensures.value c.in_err-ok_or.ensures.ok_part) (unread c.requires (c.no_fields.ensures Call.Poll) (ap (option_map _) c.in_err-ok_or.ensures.ok_part))

pub poll-requires : goal.poll-requires
unfolding step
poll-requires c = record { ready = c.requires.ready; space = read_space c.requires (c.no_fields.ensures Call.Poll) (ap (option_map _) c.in_ok-ok_or.ensures.ok_part) }

pub returns : goal.returns
unfolding step
returns c = read_done c.requires (c.no_fields.ensures Call.Poll) (ap (option_map _) c.in_ok-ok_or.ensures.ok_part) (ruled_ok c.poll.ensures)
