-- `links::write::mark_at` meets its contract.
use Rattle.links.specs.Change.{marked_is}
use Rattle.links_entry.specs.Asking.{or_else, or_then}
use Rattle.node_addr.specs.View.{view_pair}
use borrow.Author.Rules.{rules}
use Rattle.lib_laws.specs.Both.{both}
use mathlib.Core.Path.{◌∙◌}
use Rattle.links.proofs.write.mark_at.Goals.{then-released_at, else-released_at}
use Rattle.links.proofs.write.mark_at.Goals as goal

pub returns : goal.returns
returns c = both (λ a b. record { fit_links_2 = a; s_after = b }) (marked_is (view_pair c.args.p) c.put_flag.ensures (search rules) (search rules) (elim c.if-released_at.branch [ then-released_at w ↦ w.gone-is ∙ or_then _ c.released_at.ensures w.if-released_at.true | else-released_at w ↦ w.gone-is ∙ or_else c.released_at.ensures w.if-released_at.false w.setup_is-gone.ensures ]))
