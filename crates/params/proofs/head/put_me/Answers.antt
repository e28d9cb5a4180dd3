-- `params::head::put_me` meets its contract.
use Rattle.params.specs.Head.{me_written, shows_keeps}
use Rattle.params.proofs.head.put_me.Goals as goal

pub returns : goal.returns
returns c =
    let w = me_written c.requires.size c.put_fixed.ensures in
    record { fit_head = shows_keeps c.requires w; shows = w }
