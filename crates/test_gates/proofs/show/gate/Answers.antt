-- The place is that of a memory, or nothing.
use Rattle.gates.specs.Place.{place_in}
use Rattle.test_gates.proofs.show.gate.Goals as goal

pub silenced_for-requires : goal.silenced_for-requires
silenced_for-requires c = record { fit_gates = c.requires; place_in = place_in c.node.result.0 _ _ c.find_memory-place.ensures }

pub judged-requires : goal.judged-requires
judged-requires c = record { fit_gates = c.requires; place_in = place_in c.node.result.0 _ _ c.find_memory-place.ensures }
