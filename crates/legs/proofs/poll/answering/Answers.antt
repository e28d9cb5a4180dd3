-- `legs::poll::answering` meets its contract.
use Rattle.legs.specs.Walk.{places_keep}
use Rattle.legs_entry.specs.View.{view_legs, no_leg}
use Rattle.rules.specs.Legs.{answers, answering}
use Rattle.std.proofs.Common.{refl, ◌∙◌, get_or, rules, arith}
use Rattle.std.proofs.lemmas.Iterator.{YieldsList-from_range}
use Rattle.std.proofs.lemmas.Iterator.Consumers.{YieldsList-from_filter, YieldsList-at, count_from_yields_List}
use borrow.Author.Tests.{tests}
use Rattle.legs.proofs.poll.answering.Goals as goal

pub returns : goal.returns
unfolding answering
returns c =
    let xs = view_legs c.args.s.now in
    let n = c.leg_count-n.result in
    count_from_yields_List c.filter.result c.count.result c.count.ensures.ran
    (YieldsList-from_filter _ (λ i. answers (get_or xs i no_leg)) (YieldsList-at c.filter.ensures.source (YieldsList-from_range 0 n n refl (omega arith))) c.filter.ensures.closure (λ x r q k. search (rules, tests)))
    ∙ places_keep xs no_leg answers n 0 (omega arith)
