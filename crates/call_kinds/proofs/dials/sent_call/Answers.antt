-- `call_kinds::dials::sent_call` meets its contract.
use Rattle.std.proofs.Common.{ap}
use Rattle.rules.specs.Settle.{step}
use Rattle.rules.specs.Data.{Call}
use Rattle.std.specs.Prelude.{option_map}
use Rattle.refusal.specs.Passed.{passed_missing}
use Rattle.call_contract.specs.Did.{ruled_ok}
use Rattle.call_kinds.specs.Ask.{unread, read_space, read_done}
use Rattle.call_kinds.proofs.dials.sent_call.Goals as goal

pub returns-in_err-r : goal.returns-in_err-r
returns-in_err-r c = rw (passed_missing c.from_residual.ensures.1 c.in_err-r.ensures.value c.in_err-r.ensures.ok_part) (unread c.requires (c.link_fields.ensures Call.Sent) (ap (option_map _) c.in_err-r.ensures.ok_part))

pub sent-requires : goal.sent-requires
unfolding step
sent-requires c = record { ready = c.requires.ready; space = read_space c.requires (c.link_fields.ensures Call.Sent) (ap (option_map _) c.in_ok-r.ensures.ok_part) }

pub returns : goal.returns
unfolding step
returns c = read_done c.requires (c.link_fields.ensures Call.Sent) (ap (option_map _) c.in_ok-r.ensures.ok_part) (ruled_ok c.sent.ensures)
