use Rattle.lib_laws.specs.Store.{entries_count}
use Rattle.links_entry.specs.Asking.{loading_count, loading_end, loading_start, loading_turn}
use Rattle.links_entry.specs.Here.{path_shown}
use Rattle.links_entry.specs.View.{no_path, path_of, view_path}
use borrow.Author.Rules.{rules}
use mathlib.Core.Path.{◌∙◌}
use native.Mathlib.Omega.{arith}
use Rattle.links_entry.proofs.paths.load_paths.Goals as goal

pub loop-j-init : goal.loop-j-init
loop-j-init c = rw c.new-out.ensures.items (loading_start view_path _)

pub push-requires : goal.push-requires
push-requires c = omega (arith, loading_count c.loop-j.invariant, c.requires.kept.small)

pub loop-j-preserved : goal.loop-j-preserved
loop-j-preserved c = loading_turn c.loop-j.invariant no_path (rw (entries_count path_of c.requires) (search rules)) (c.load_path.ensures ∙ path_shown c.requires (search rules)) c.push.ensures.items

pub returns : goal.returns
returns c = loading_end c.loop-j.invariant (rw (entries_count path_of c.requires) (search rules))
