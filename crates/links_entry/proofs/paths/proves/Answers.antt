use Rattle.links_entry.specs.Asking.{ask_hit, ask_skip, ask_start, ask_end}
use Rattle.links_entry.specs.View.{path_of}
use borrow.Author.Rules.{rules}
use mathlib.Core.List.{[]}
use mathlib.Core.Path.{◌∙◌, sym}
use Rattle.links_entry.proofs.paths.proves.Goals as goal

pub loop-j-init : goal.loop-j-init
loop-j-init c = ask_start _ path_of c.requires.kept

pub returns-then-proven_path : goal.returns-then-proven_path
returns-then-proven_path c = ask_hit c.loop-j.invariant [] (search rules) (sym c.proven_path.ensures ∙ c.if-proven_path.true)

pub loop-j-preserved : goal.loop-j-preserved
loop-j-preserved c = ask_skip c.loop-j.invariant [] (search rules) (sym c.proven_path.ensures ∙ c.if-proven_path.false)

pub returns : goal.returns
returns c = ask_end c.loop-j.invariant (search rules)
