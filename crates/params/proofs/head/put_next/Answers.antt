-- `params::head::put_next` meets its contract.
use Rattle.params.specs.Head.{next_written, shows_keeps}
use borrow.Author.Rules.{rules}
use Rattle.params.proofs.head.put_next.Goals as goal

pub returns : goal.returns
returns c =
    let w = next_written c.requires.size c.put_be.ensures (search rules) in
    record { fit_head = shows_keeps c.requires w; shows = w }
