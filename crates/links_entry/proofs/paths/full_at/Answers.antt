-- `links_entry::paths::full_at` meets its contract.
use Rattle.links_entry.specs.Paths.{full_few, full_found}
use Rattle.node_addr.specs.View.{view_pair}
use borrow.Author.Rules.{rules}
use Rattle.links_entry.proofs.paths.full_at.Goals as goal

pub returns-else-s-ge-PATH_CAP : goal.returns-else-s-ge-PATH_CAP
returns-else-s-ge-PATH_CAP c = full_few (view_pair c.args.p) c.requires (search rules)

pub returns-then-s-ge-PATH_CAP : goal.returns-then-s-ge-PATH_CAP
returns-then-s-ge-PATH_CAP c = full_found (view_pair c.args.p) c.requires (search rules) c.find_path.ensures c.is_none.ensures
