-- `links_entry::read::dir_at` meets its contract.
use Rattle.links_entry.specs.Here.{dir_named, reading}
use borrow.Author.Rules.{rules}
use Rattle.links_entry.proofs.read.dir_at.Goals as goal

pub unwrap-requires : goal.unwrap-requires
unwrap-requires c = search reading

pub returns : goal.returns
returns c = dir_named c.requires.fit_links c.requires.i_bound _ (search rules) c.get_byte-code.ensures
