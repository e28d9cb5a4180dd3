-- `links_entry::paths::remove_path` meets its contract.
use Rattle.lib_laws.specs.Store.{removed_is}
use Rattle.links_entry.specs.View.{path_of}
use Rattle.links_entry.specs.Zeros.{path_zeros}
use borrow.Author.Rules.{rules}
use Rattle.lib_laws.specs.Both.{both}
use Rattle.links_entry.proofs.paths.remove_path.Goals as goal

pub returns : goal.returns
returns c = both (λ a b. record { fit_paths_2 = a; s_after = b }) (removed_is path_of (search rules) (search rules) path_zeros c.remove_chunk.ensures)
