-- `gates::calls::judged` meets its contract.
use mathlib.Core.List.{[]}
use Rattle.gates.specs.Place.{at_place}
use Rattle.gates.proofs.calls.judged.Goals as goal

pub judged_at-requires : goal.judged_at-requires
judged_at-requires c = record { fit_gates = c.requires.fit_gates; i_bound = at_place c.requires.fit_gates c.requires.place_in c.in-Some.is }

pub returns-in-Some : goal.returns-in-Some
returns-in-Some c = rw c.in-Some.is c.judged_at.ensures

pub returns-in-None : goal.returns-in-None
returns-in-None c = rw c.in-None.is (c.judged_blank.ensures [] c.args.digest.0)
