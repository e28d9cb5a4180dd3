use Rattle.rules.specs.Settle.{earlier_held}
use Rattle.node_addr.specs.Search.{takes_insert}
use Rattle.held.specs.Walk.{count_is}
use Rattle.held.proofs.Written.{FitRec, fit_bytes, held_bytes_lem}
use Rattle.held.specs.View.{held_of, view_held, view_rec}
use Rattle.lib_laws.specs.Store.{inserted_is}
use borrow.Author.Rules.{rules}
use mathlib.Core.Path.{sym, ◌∙◌}
use Rattle.held.proofs.map.insert_held.Goals as goal

pub returns : goal.returns
returns c =
    let f : FitRec c.args.h = search rules in
    let r = inserted_is held_of c.requires.fit_held c.place_for-i.ensures.within c.requires.s_bound c.open_chunk.ensures c.put_held.ensures (fit_bytes _ f) (held_bytes_lem _ f (search rules)) in
    record { fit_held_2 = r.0; s_after = r.1 ∙ takes_insert earlier_held (view_rec c.args.h) (view_held c.args.s.now) c.place_for-i.ensures (sym (count_is c.requires.fit_held)) }
