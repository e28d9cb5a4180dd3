-- `links::write::remove_link` meets its contract.
use Rattle.lib_laws.specs.Store.{removed_is}
use Rattle.links_entry.specs.View.{link_of}
use Rattle.links_entry.specs.Zeros.{link_zeros}
use borrow.Author.Rules.{rules}
use Rattle.lib_laws.specs.Both.{both}
use Rattle.links.proofs.write.remove_link.Goals as goal

pub returns : goal.returns
returns c = both (λ a b. record { fit_links_2 = a; s_after = b }) (removed_is link_of (search rules) (search rules) link_zeros c.remove_chunk.ensures)
