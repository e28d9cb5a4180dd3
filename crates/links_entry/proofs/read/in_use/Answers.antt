use Rattle.links_entry.specs.Asking.{ask_hit, ask_skip, ask_start, ask_end}
use Rattle.links_entry.specs.Here.{link_shown}
use Rattle.links_entry.specs.View.{link_of}
use Rattle.node_addr.specs.View.{view_pair}
use Rattle.rules.specs.Links.{in_use, uses}
use borrow.Author.Rules.{rules}
use mathlib.Core.List.{[]}
use mathlib.Core.Path.{◌∙◌, ap, sym}
use Rattle.std.proofs.Common.{ap}
use Rattle.links_entry.proofs.read.in_use.Goals as goal

pub loop-i-init : goal.loop-i-init
unfolding in_use
loop-i-init c = ask_start _ link_of c.requires.kept

pub returns-then-uses_at : goal.returns-then-uses_at
returns-then-uses_at c = ask_hit c.loop-i.invariant [] (search rules) (ap (uses (view_pair c.args.p)) (link_shown c.requires (search rules)) ∙ sym c.uses_at.ensures ∙ c.if-uses_at.true)

pub loop-i-preserved : goal.loop-i-preserved
loop-i-preserved c = ask_skip c.loop-i.invariant [] (search rules) (ap (uses (view_pair c.args.p)) (link_shown c.requires (search rules)) ∙ sym c.uses_at.ensures ∙ c.if-uses_at.false)

pub returns : goal.returns
returns c = ask_end c.loop-i.invariant (search rules)
