-- `call_kinds::dials::unsent_call` meets its contract.
use Rattle.std.proofs.Common.{ap}
use Rattle.rules.specs.Settle.{step}
use Rattle.rules.specs.Data.{Call}
use Rattle.std.specs.Prelude.{option_map}
use Rattle.refusal.specs.Passed.{passed_missing}
use Rattle.call_kinds.specs.Ask.{unread, read_done}
use Rattle.call_kinds.specs.Kind.{ruled_told, unsent_silent}
use Rattle.call_kinds.proofs.dials.unsent_call.Goals as goal

pub returns-in_err-r : goal.returns-in_err-r
returns-in_err-r c = rw (passed_missing c.from_residual.ensures.1 c.in_err-r.ensures.value c.in_err-r.ensures.ok_part) (unread c.requires (c.link_fields.ensures Call.Unsent) (ap (option_map _) c.in_err-r.ensures.ok_part))

pub unsent-requires : goal.unsent-requires
unfolding step
unsent-requires c = c.requires.ready.fit

pub returns : goal.returns
unfolding step
returns c = read_done c.requires (c.link_fields.ensures Call.Unsent) (ap (option_map _) c.in_ok-r.ensures.ok_part) (ruled_told (unsent_silent _ _) c.unsent.ensures)
