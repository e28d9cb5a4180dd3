-- `call_kinds::peers::heard_call` meets its contract.
use Rattle.std.proofs.Common.{ap}
use Rattle.rules.specs.Settle.{step}
use Rattle.std.specs.Prelude.{option_map}
use Rattle.refusal.specs.Passed.{passed_missing}
use Rattle.call_contract.specs.Did.{ruled_ok}
use Rattle.call_kinds.specs.Ask.{unread, read_space, read_done}
use Rattle.call_contract.specs.Sound.{gates_ordered}
use Rattle.call_kinds.proofs.peers.heard_call.Goals as goal

pub returns-in_err-r : goal.returns-in_err-r
returns-in_err-r c = rw (passed_missing c.from_residual.ensures.1 c.in_err-r.ensures.value c.in_err-r.ensures.ok_part) (unread c.requires c.heard_fields.ensures.reads (ap (option_map _) c.in_err-r.ensures.ok_part))

pub heard-requires : goal.heard-requires
unfolding step
heard-requires c = record { fit_table = c.requires.ready.fit; ascending = gates_ordered c.requires.ready.sound; pair_in = rw c.in_ok-r.ensures.ok_part at c.heard_fields.ensures.pair_in; space = read_space c.requires c.heard_fields.ensures.reads (ap (option_map _) c.in_ok-r.ensures.ok_part) }

pub returns : goal.returns
unfolding step
returns c = read_done c.requires c.heard_fields.ensures.reads (ap (option_map _) c.in_ok-r.ensures.ok_part) (ruled_ok c.heard.ensures)
