-- `links_entry::read::indexed_at` meets its contract.
use Rattle.links_entry.specs.Asking.{and_else, and_then, or_first, or_last}
use Rattle.rules.specs.Links.{indexed}
use Rattle.std.proofs.Common.{ap}
use mathlib.Core.Bool.{not}
use Rattle.links_entry.proofs.read.indexed_at.Goals as goal

pub returns-then-proven_at : goal.returns-then-proven_at
unfolding indexed
returns-then-proven_at c = or_last _ c.proven_at.ensures c.if-proven_at.true

pub returns-then-setup_is : goal.returns-then-setup_is
unfolding indexed
returns-then-setup_is c = or_first c.proven_at.ensures c.if-proven_at.false (and_then c.setup_is.ensures c.if-setup_is.true (ap not c.released_at.ensures))

pub returns-else-setup_is : goal.returns-else-setup_is
unfolding indexed
returns-else-setup_is c = or_first c.proven_at.ensures c.if-proven_at.false (and_else _ c.setup_is.ensures c.if-setup_is.false)
