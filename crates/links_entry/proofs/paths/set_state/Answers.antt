-- `links_entry::paths::set_state` meets its contract.
use Rattle.links_entry.proofs.Codes.{state_tag}
use Rattle.links_entry.specs.Paths.{set_state_is}
use borrow.Author.Rules.{rules}
use Rattle.lib_laws.specs.Both.{both}
use Rattle.links_entry.proofs.paths.set_state.Goals as goal

pub returns : goal.returns
returns c = both (λ a b. record { fit_paths_2 = a; s_after = b }) (set_state_is _ (state_tag c.args.v) c.put_byte.ensures (search rules) (search rules))
