use Rattle.legs.specs.Stored.{links_count, reaching_start, reaching_in, reaching_hit, reaching_skip, reaching_end, looking_start, looking_hit, looking_skip, looking_end, looking_none, tells_no}
use Rattle.links_entry.specs.View.{no_link}
use mathlib.Core.Path.{refl, sym, ◌∙◌}
use native.Mathlib.Omega.{arith}
use Rattle.legs.proofs.stored.stored.Goals as goal

pub returns-then-leg_count-eq0 : goal.returns-then-leg_count-eq0
returns-then-leg_count-eq0 c = tells_no (looking_none _ _ _ _ (sym c.leg_count.ensures.value_2 ∙ c.if-leg_count-eq0.true))

pub search-init : goal.search-init
search-init c = (looking_start _ _ _ _ c.link_count-end.ensures, refl)

pub no_at-l-requires-clause-i_bound : goal.no_at-l-requires-clause-i_bound
no_at-l-requires-clause-i_bound c = omega (arith, links_count c.requires.fit_links, c.search.invariant.0.within)

pub addresses-j-end-requires-clause-i_bound : goal.addresses-j-end-requires-clause-i_bound
addresses-j-end-requires-clause-i_bound c = omega (arith, links_count c.requires.fit_links, c.search.invariant.0.within)

pub loop-j-init : goal.loop-j-init
loop-j-init c = (reaching_start _ _ _ _ _ c.no_at-l.ensures c.yielding-f.ensures c.addresses-j-end.ensures, c.search.invariant.1)

pub reached-requires-clause-i_bound : goal.reached-requires-clause-i_bound
reached-requires-clause-i_bound c = omega (arith, links_count c.requires.fit_links, c.search.invariant.0.within)

pub reached-requires-clause-j_in_bounds : goal.reached-requires-clause-j_in_bounds
reached-requires-clause-j_in_bounds c = reaching_in c.loop-j.invariant.0 c.loop-j-test.true

pub loop-j-preserved : goal.loop-j-preserved
loop-j-preserved c = (reaching_skip c.loop-j.invariant.0 c.loop-j-test.true c.reached.ensures c.if-reached.false, c.loop-j.invariant.1)

pub search-preserved : goal.search-preserved
search-preserved c = (looking_skip c.search.invariant.0 no_link c.search-test.true (reaching_end c.loop-j.invariant.0 c.loop-j-test.false), c.loop-j.invariant.1)

pub returns-after-search : goal.returns-after-search
returns-after-search c = rw c.search.invariant.1 (tells_no (looking_end c.search.invariant.0 c.search-test.false))

pub returns-then-reached : goal.returns-then-reached
returns-then-reached c =
    reaching_hit c.loop-j.invariant.0 c.loop-j-test.true c.reached.ensures c.if-reached.true
    (λ z e. looking_hit c.search.invariant.0 no_link c.search-test.true e)
