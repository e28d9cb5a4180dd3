-- `links_entry::paths::state_at` meets its contract.
use Rattle.links_entry.specs.Here.{pathing, state_named}
use borrow.Author.Rules.{rules}
use Rattle.links_entry.proofs.paths.state_at.Goals as goal

pub unwrap-requires : goal.unwrap-requires
unwrap-requires c = search pathing

pub returns : goal.returns
returns c = state_named c.requires.fit_paths c.requires.j_bound _ (search rules) c.get_byte-code.ensures
