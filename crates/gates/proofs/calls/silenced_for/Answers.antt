-- `gates::calls::silenced_for` meets its contract.
use mathlib.Core.Path.{sym}
use mathlib.Core.Bool.{and-false}
use Rattle.rules.specs.Gates.{asks_silence, silencing}
use Rattle.gates_types.specs.View.{source_of}
use Rattle.gates.specs.Place.{at_place}
use Rattle.gates.proofs.calls.silenced_for.Goals as goal

pub silenced_at-requires : goal.silenced_at-requires
silenced_at-requires c = record { fit_gates = c.requires.fit_gates; i_bound = at_place c.requires.fit_gates c.requires.place_in c.in-Some.is }

pub returns-in-Some : goal.returns-in-Some
returns-in-Some c = rw c.in-Some.is c.silenced_at.ensures

pub returns-in-None : goal.returns-in-None
unfolding silencing
returns-in-None c = rw c.in-None.is (sym (and-false (asks_silence (source_of c.args.source))))
