-- `call_kinds::peers::remove_call` meets its contract.
use Rattle.std.proofs.Common.{ap, ◌∙◌}
use Rattle.rules.specs.Settle.{step}
use Rattle.std.specs.Prelude.{option_map, Some}
use Rattle.refusal.specs.Passed.{passed_missing}
use Rattle.call_contract.specs.Did.{ruled_ok}
use Rattle.call_kinds.specs.Ask.{unread, read_space, read_done}
use Rattle.output_code.specs.Codes.{why_of}
use Rattle.rules.specs.Data.{Call}
use Rattle.call_kinds.specs.Kind.{why_is}
use Rattle.call_kinds.proofs.peers.remove_call.Goals as goal

pub returns-in_err-r : goal.returns-in_err-r
returns-in_err-r c = rw (passed_missing c.from_residual.ensures.1 c.in_err-r.ensures.value c.in_err-r.ensures.ok_part) (unread c.requires c.remove_fields.ensures.reads (ap (option_map _) c.in_err-r.ensures.ok_part))

pub why_of-requires : goal.why_of-requires
why_of-requires c = rw c.in_ok-r.ensures.ok_part at c.remove_fields.ensures.why_bound

pub remove-requires : goal.remove-requires
unfolding step
remove-requires c = record { ready = c.requires.ready; space = read_space c.requires c.remove_fields.ensures.reads (ap (option_map _) c.in_ok-r.ensures.ok_part ∙ ap (λ w. Some (Call.Remove c.in_ok-r.r.peer.0 w)) (why_is (why_of c.why_of.result) c.why_of.ensures)) }

pub returns : goal.returns
unfolding step
returns c = read_done c.requires c.remove_fields.ensures.reads (ap (option_map _) c.in_ok-r.ensures.ok_part ∙ ap (λ w. Some (Call.Remove c.in_ok-r.r.peer.0 w)) (why_is (why_of c.why_of.result) c.why_of.ensures)) (ruled_ok c.remove.ensures)
