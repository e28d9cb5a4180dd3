-- `call_admit::ruling::ruled` meets its contract.
use Rattle.gates.specs.Place.{place_in}
use Rattle.call_admit.specs.Ruling.{denied_silent, denied_full, denied_mapped}
use Rattle.call_admit.proofs.ruling.ruled.Goals as goal

pub silenced_for-requires-clause-place_in : goal.silenced_for-requires-clause-place_in
silenced_for-requires-clause-place_in c = place_in c.args.peer.0 _ _ c.find_memory-place.ensures

pub returns-then-silenced_for : goal.returns-then-silenced_for
returns-then-silenced_for c = denied_silent _ _ c.args.source _ c.args.digest _ c.find_memory-place.ensures c.silenced_for.ensures c.if-silenced_for.true

pub returns-then-full : goal.returns-then-full
returns-then-full c = denied_full _ _ c.args.source _ c.args.digest _ c.find_memory-place.ensures c.silenced_for.ensures c.if-silenced_for.false c.full.ensures c.if-full.true

pub judged-requires-clause-place_in : goal.judged-requires-clause-place_in
judged-requires-clause-place_in c = place_in c.args.peer.0 _ _ c.find_memory-place.ensures

pub returns : goal.returns
returns c = denied_mapped _ _ c.args.source _ c.args.digest _ c.find_memory-place.ensures c.silenced_for.ensures c.if-silenced_for.false c.full.ensures c.if-full.false c.params_of.ensures c.requires.lives _ c.judged.ensures _ c.map_err.ensures.cases
