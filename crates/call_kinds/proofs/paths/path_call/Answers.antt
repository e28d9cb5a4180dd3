-- `call_kinds::paths::path_call` meets its contract.
use Rattle.std.proofs.Common.{ap, sym, ◌∙◌}
use Rattle.rules.specs.Settle.{step}
use Rattle.std.specs.Prelude.{option_map, Some}
use Rattle.refusal.specs.Passed.{passed_missing}
use Rattle.call_kinds.specs.Ask.{unread, read_done}
use Rattle.rules.specs.Data.{Call}
use Rattle.node_addr.specs.View.{view_pair}
use Rattle.refusal.specs.Passed.{passed}
use Rattle.call_kinds.specs.Kind.{ruled_path}
use Rattle.call_kinds.proofs.paths.path_call.Goals as goal

pub returns-in_err-r : goal.returns-in_err-r
returns-in_err-r c = rw (passed_missing c.from_residual.ensures.1 c.in_err-r.ensures.value c.in_err-r.ensures.ok_part) (unread c.requires c.path_fields.ensures.reads (ap (option_map _) c.in_err-r.ensures.ok_part))

pub state_of-requires : goal.state_of-requires
state_of-requires c = rw c.in_ok-r.ensures.ok_part at c.path_fields.ensures.state_bound

pub returns-in_err-add_path : goal.returns-in_err-add_path
unfolding step
returns-in_err-add_path c = rw (passed c.from_residual-in_err-add_path.ensures.1) (read_done c.requires c.path_fields.ensures.reads (ap (option_map _) c.in_ok-r.ensures.ok_part ∙ ap (λ v. Some (Call.Path c.in_ok-r.r.link.0 (view_pair c.in_ok-r.r.pair) v)) (sym c.state_of.ensures)) (ruled_path _ _ _ _ c.in_err-add_path.ensures))

pub add_path-requires : goal.add_path-requires
unfolding step
add_path-requires c = record { fit_table = c.requires.ready.fit }

pub returns : goal.returns
unfolding step
returns c = read_done c.requires c.path_fields.ensures.reads (ap (option_map _) c.in_ok-r.ensures.ok_part ∙ ap (λ v. Some (Call.Path c.in_ok-r.r.link.0 (view_pair c.in_ok-r.r.pair) v)) (sym c.state_of.ensures)) (ruled_path _ _ _ _ c.in_ok-add_path.ensures)
