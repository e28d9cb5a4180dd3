-- `links_entry::read::link_count` meets its contract.
use Rattle.lib_laws.specs.Store.{entries_count}
use Rattle.links_entry.specs.View.{link_of}
use mathlib.Core.Path.{sym}
use Rattle.links_entry.proofs.read.link_count.Goals as goal

pub returns : goal.returns
returns c = sym (entries_count link_of c.requires)
