-- `tape::cut::extent` meets its contract.
use Rattle.tape.specs.Cut.{extent_short, extent_whole, extent_cut}
use Rattle.tape.proofs.cut.extent.Goals as goal

pub returns-then-most-lt-U16 : goal.returns-then-most-lt-U16
returns-then-most-lt-U16 c = extent_short c.args.tape.now c.if-most-lt-U16.true

pub returns-then-size-most : goal.returns-then-size-most
returns-then-size-most c = rw c.get_be.ensures.value (extent_whole c.args.tape.now c.if-most-lt-U16.false (rw c.get_be.ensures.value at c.if-size-most.true))

pub returns : goal.returns
returns c = extent_cut c.args.tape.now c.if-most-lt-U16.false (rw c.get_be.ensures.value at c.if-size-most.false)
