-- `links_entry::read::waits_at` meets its contract.
use Rattle.links_entry.specs.Asking.{or_else, or_then}
use Rattle.links_entry.specs.Here.{leg_is, paths_none}
use borrow.Author.Tests.{eq-eqb, ne_eqb}
use Rattle.links_entry.proofs.read.waits_at.Goals as goal

pub returns-then-path_count_at-eq0 : goal.returns-then-path_count_at-eq0
returns-then-path_count_at-eq0 c = or_then _ (paths_none _ c.path_count_at.ensures.value) (eq-eqb _ 0 c.if-path_count_at-eq0.true)

pub returns-else-path_count_at-eq0 : goal.returns-else-path_count_at-eq0
returns-else-path_count_at-eq0 c =
    or_else (paths_none _ c.path_count_at.ensures.value) (ne_eqb _ 0 c.if-path_count_at-eq0.false) (leg_is c.requires.fit_links c.requires.i_bound c.get_byte.ensures)
