-- The region is kept, and there is room.
use borrow.Author.Rules.{rules}
use Rattle.test_gates.specs.Kept.{kept_stamped, room_below}
use Rattle.test_gates.proofs.change.give_up.Goals as goal

pub stamp-requires : goal.stamp-requires
stamp-requires c = record { fit_gates = search rules; ascending = search rules; room = room_below (search rules) }

pub returns-then-memory_count-lt32 : goal.returns-then-memory_count-lt32
returns-then-memory_count-lt32 c = kept_stamped c.requires _ c.stamp.ensures.fit_gates_2 _ c.stamp.ensures.s_after
