-- `tape::feed::read_part` meets its contract.
use native.Mathlib.Omega.{arith}
use Rattle.tape.specs.Feed.{into}
use Rattle.tape.proofs.feed.read_part.Goals as goal

pub returns : goal.returns
returns c = into c.args.buf.now c.read_full.new.buf (omega (arith, c.requires.from_le_to, c.requires.to_in_bounds)) c.read_full.ensures.0 c.read_full.auto.buf
