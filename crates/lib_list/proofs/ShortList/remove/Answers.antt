use Rattle.std.proofs.Common.{arith}
use Rattle.lib_list.proofs.Moved.{take-closed}
use Rattle.lib_list.proofs.ShortList.remove.Goals as goal

pub returns-clause-items : goal.returns-clause-items
returns-clause-items g c =
    let h = rw (← c.self.view_is) at c.requires in
    rw (c.copy_within.ensures.after, ← c.self.view_is) (take-closed c.self.inside.xs c.self.inside.len c.args.index h (omega arith))
