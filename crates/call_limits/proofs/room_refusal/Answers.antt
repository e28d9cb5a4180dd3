-- `call_limits::room_refusal` meets its contract.
use Rattle.call_limits.specs.Enter.{too_many, plenty, has_room, some_left, no_place}
use Rattle.call_limits.proofs.room_refusal.Goals as goal
use Rattle.call_limits.proofs.room_refusal.Goals.{then-roomy-via-then-roomy, then-roomy-via-else-roomy+then-has_place, then-roomy-via-else-roomy+else-has_place+then-count_places-lt-PLACES}

pub returns-then-link_count-ge-LINK_CAP : goal.returns-then-link_count-ge-LINK_CAP
returns-then-link_count-ge-LINK_CAP c = too_many c.link_count.ensures c.if-link_count-ge-LINK_CAP.true

pub returns-then-roomy : goal.returns-then-roomy
returns-then-roomy c =
    elim c.then-roomy.branch [
      | then-roomy-via-then-roomy w ↦ plenty c.link_count.ensures c.if-link_count-ge-LINK_CAP.false c.roomy.ensures w.if-roomy.true
      | then-roomy-via-else-roomy+then-has_place w ↦ has_room c.link_count.ensures c.if-link_count-ge-LINK_CAP.false w.has_place.ensures w.if-has_place.true
      | then-roomy-via-else-roomy+else-has_place+then-count_places-lt-PLACES w ↦ some_left c.link_count.ensures c.if-link_count-ge-LINK_CAP.false w.count_places.ensures w.if-count_places-lt-PLACES.true
    ]

pub returns : goal.returns
returns c =
    no_place c.link_count.ensures c.if-link_count-ge-LINK_CAP.false
    c.has_place.ensures c.if-has_place.false c.count_places.ensures c.if-count_places-lt-PLACES.false
