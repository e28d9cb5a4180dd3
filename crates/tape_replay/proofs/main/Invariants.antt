-- The measure is the number of turns that are left.
use Rattle.tape_replay.proofs.main.Given as goal

abbrev pub invariant-loop : goal.invariant-loop
invariant-loop l = Unit {0}
