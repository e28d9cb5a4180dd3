-- `call_kinds::dials::dial_call` meets its contract.
use Rattle.std.proofs.Common.{ap}
use Rattle.std.specs.Prelude.{option_map}
use Rattle.refusal.specs.Passed.{passed_missing}
use Rattle.call_kinds.specs.Ask.{unread, read_space, read_done}
use Rattle.call_kinds.proofs.dials.dial_call.Goals as goal

pub returns-in_err-r : goal.returns-in_err-r
returns-in_err-r c = rw (passed_missing c.from_residual.ensures.1 c.in_err-r.ensures.value c.in_err-r.ensures.ok_part) (unread c.requires c.dial_fields.ensures (ap (option_map _) c.in_err-r.ensures.ok_part))

pub dial-requires : goal.dial-requires
dial-requires c = record { ready = c.requires.ready; space = read_space c.requires c.dial_fields.ensures (ap (option_map _) c.in_ok-r.ensures.ok_part) }

pub returns : goal.returns
returns c = read_done c.requires c.dial_fields.ensures (ap (option_map _) c.in_ok-r.ensures.ok_part) c.dial.ensures
