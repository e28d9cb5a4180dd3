-- The region is kept, and there is room.
use borrow.Author.Rules.{rules}
use Rattle.test_gates.specs.Kept.{fit_chosen, within_chosen, kept_ended, room_below}
use Rattle.test_gates.proofs.change.end.Goals as goal

pub ended-requires : goal.ended-requires
ended-requires c = record { fit_gates = search rules; ascending = search rules; all = within_chosen c.requires c.settings.ensures; fit_params = fit_chosen c.settings.ensures; room = room_below (search rules) }

pub returns-then-memory_count-lt32 : goal.returns-then-memory_count-lt32
returns-then-memory_count-lt32 c = kept_ended c.requires _ c.ended.ensures.fit_gates_2 _ _ _ c.settings.ensures c.ended.ensures.s_after
