-- `legs::poll::find_overdue` meets its contract.
use Rattle.legs.specs.Walk.{places_find, given_back}
use Rattle.legs_entry.specs.At.{past_deadline}
use Rattle.legs_entry.specs.View.{view_legs, no_leg}
use Rattle.std.proofs.Common.{refl, ◌∙◌, get_or, rules, arith}
use Rattle.std.proofs.lemmas.Iterator.{YieldsList-from_range}
use Rattle.std.proofs.lemmas.Iterator.Search.{find_from_yields_List}
use borrow.Author.Tests.{tests}
use Rattle.legs.proofs.poll.find_overdue.Goals as goal

pub returns : goal.returns
returns c =
    let xs = view_legs c.args.s.now in
    let n = c.leg_count-n.result in
    given_back (find_from_yields_List (λ i. past_deadline c.args.clock (get_or xs i no_leg)) _ _ c.find.result c.find.ensures.ran (YieldsList-from_range 0 n n refl (omega arith)) (λ x b q k. search (rules, tests)))
    ∙ places_find xs no_leg (past_deadline c.args.clock) n 0 (omega arith)
