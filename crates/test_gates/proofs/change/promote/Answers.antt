-- The region is kept, and there is room.
use borrow.Author.Rules.{rules}
use Rattle.test_gates.specs.Kept.{fit_chosen, kept_promoted, room_below}
use Rattle.test_gates.proofs.change.promote.Goals as goal

pub promoted-requires : goal.promoted-requires
promoted-requires c = record { fit_gates = search rules; ascending = search rules; fit_params = fit_chosen c.settings.ensures; room = room_below (search rules) }

pub returns-then-memory_count-lt32 : goal.returns-then-memory_count-lt32
returns-then-memory_count-lt32 c = kept_promoted c.requires _ c.promoted.ensures.fit_gates_2 _ _ c.settings.ensures c.promoted.ensures.s_after
