-- `legs::poll::find_resend` meets its contract.
use Rattle.legs.specs.Walk.{places_find, given_back}
use Rattle.legs_entry.specs.At.{resend_due}
use Rattle.legs_entry.specs.View.{view_legs, no_leg}
use Rattle.std.proofs.Common.{refl, ◌∙◌, ◌-◌, get_or, rules, arith}
use Rattle.std.proofs.lemmas.Iterator.{YieldsList-from_range}
use Rattle.std.proofs.lemmas.Iterator.Search.{find_from_yields_List}
use borrow.Author.Tests.{tests}
use Rattle.legs.proofs.poll.find_resend.Goals as goal

pub returns : goal.returns
returns c =
    let xs = view_legs c.args.s.now in
    let n = c.leg_count-n.result in
    let from = c.args.from in
    given_back (find_from_yields_List (λ i. resend_due c.args.clock (get_or xs i no_leg)) _ _ c.find.result c.find.ensures.ran (YieldsList-from_range from n (n - from) refl refl) (λ x b q k. search (rules, tests)))
    ∙ places_find xs no_leg (resend_due c.args.clock) (n - from) from (omega arith)
