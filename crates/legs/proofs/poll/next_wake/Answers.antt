-- `legs::poll::next_wake` meets its contract.
use Rattle.legs.specs.Walk.{places_map, wakes_min, given_back}
use Rattle.legs_entry.specs.View.{view_legs, no_leg}
use Rattle.rules.specs.Legs.{wake}
use Rattle.std.proofs.Common.{refl, ◌∙◌, ap, get_or, min, rules, arith}
use Rattle.std.specs.List.{reduce}
use Rattle.std.proofs.lemmas.Iterator.{YieldsList-from_range, YieldsList-from_map}
use Rattle.std.proofs.lemmas.Iterator.Consumers.{YieldsList-at, min_from_yields_List}
use Rattle.legs.proofs.poll.next_wake.Goals as goal

pub returns : goal.returns
returns c =
    let xs = view_legs c.args.s.now in
    let n = c.leg_count-n.result in
    given_back (min_from_yields_List c.map.result c.min.result c.min.ensures.ran
    (YieldsList-from_map _ (λ i. wake (get_or xs i no_leg)) (YieldsList-at c.map.ensures.source (YieldsList-from_range 0 n n refl (omega arith))) c.map.ensures.closure (λ x r q k. search rules)))
    ∙ ap (reduce min) (places_map xs no_leg wake n 0 (omega arith))
    ∙ wakes_min xs
