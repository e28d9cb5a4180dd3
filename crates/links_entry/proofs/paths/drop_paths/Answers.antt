use Rattle.lib_laws.specs.Store.{entries_count}
use Rattle.links_entry.specs.Asking.{sifting_end, sifting_start}
use Rattle.links_entry.specs.View.{path_of}
use borrow.Author.Rules.{rules}
use Rattle.links_entry.proofs.paths.drop_paths.Goals as goal

pub loop-j-init : goal.loop-j-init
loop-j-init c = (search rules, sifting_start _ _)

pub loop-j-smaller : goal.loop-j-smaller
loop-j-smaller c = c.sift-j.ensures.sifted.less

pub loop-j-preserved : goal.loop-j-preserved
loop-j-preserved c = (c.sift-j.ensures.fit_paths_2, c.sift-j.ensures.sifted.keeps c.loop-j.invariant.1)

pub returns : goal.returns
returns c = record { fit_paths_2 = c.loop-j.invariant.0; s_after = sifting_end c.loop-j.invariant.1 (rw (entries_count path_of c.loop-j.invariant.0) (search rules)) }
