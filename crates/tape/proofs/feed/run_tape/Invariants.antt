-- `tape::feed::run_tape` meets its contract.
use Rattle.tape.specs.Feed.{Standing}
use Rattle.tape.proofs.feed.run_tape.Given as goal

abbrev pub invariant-loop : goal.invariant-loop
invariant-loop l = Standing l.phase l.initial.table l.initial.buf l.initial.out l.table l.buf l.out
