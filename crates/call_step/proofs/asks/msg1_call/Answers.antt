-- `call_step::asks::msg1_call` meets its contract.
use Rattle.std.proofs.Common.{ap}
use Rattle.std.specs.Prelude.{option_map}
use Rattle.refusal.specs.Passed.{passed_missing}
use Rattle.call_kinds.specs.Ask.{unread, read_space, read_done}
use Rattle.call_step.proofs.asks.msg1_call.Goals as goal

pub returns-in_err-r : goal.returns-in_err-r
returns-in_err-r c = rw (passed_missing c.from_residual.ensures.1 c.in_err-r.ensures.value c.in_err-r.ensures.ok_part) (unread c.requires c.msg1_fields.ensures.reads (ap (option_map _) c.in_err-r.ensures.ok_part))

pub msg1-requires : goal.msg1-requires
msg1-requires c = record { ready = c.requires.ready; fit_hello = rw c.in_ok-r.ensures.ok_part at c.msg1_fields.ensures.fit_hello; space = read_space c.requires c.msg1_fields.ensures.reads (ap (option_map _) c.in_ok-r.ensures.ok_part) }

pub returns : goal.returns
returns c = read_done c.requires c.msg1_fields.ensures.reads (ap (option_map _) c.in_ok-r.ensures.ok_part) c.msg1.ensures
