use Rattle.lib_laws.specs.Store.{removed_is}
use Rattle.held.specs.View.{held_of, fit_zeros}
use Rattle.held.proofs.map.remove_held.Goals as goal

pub returns : goal.returns
returns c =
    let r = removed_is held_of c.requires.fit_held c.requires.i_bound fit_zeros c.remove_chunk.ensures in
    record { fit_held_2 = r.0; s_after = r.1 }
