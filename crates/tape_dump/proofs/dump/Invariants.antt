-- `tape_dump::dump` meets its contract.
use Rattle.tape.specs.Feed.{Standing}
use Rattle.tape_dump.proofs.dump.Given as goal

abbrev pub invariant-loop : goal.invariant-loop
invariant-loop l = Standing l.phase l.initial.table l.initial.buf l.initial.out l.table l.buf l.out
