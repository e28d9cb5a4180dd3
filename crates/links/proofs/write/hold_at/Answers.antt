-- `links::write::hold_at` meets its contract.
use Rattle.lib_laws.specs.Splice.{wrote_then}
use Rattle.links.specs.Change.{held_is}
use borrow.Author.Rules.{rules}
use Rattle.lib_laws.specs.Both.{both}
use Rattle.links.proofs.write.hold_at.Goals as goal

pub returns : goal.returns
returns c = both (λ a b. record { fit_links_2 = a; s_after = b }) (held_is (wrote_then c.put_byte-a.ensures c.put_fixed.ensures) (search rules) (search rules) (search rules))
