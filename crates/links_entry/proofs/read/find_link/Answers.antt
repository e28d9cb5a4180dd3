use Rattle.lib_laws.specs.Scan.{scan_end, scan_hit, scan_kept, scan_skip}
use Rattle.links_entry.specs.Here.{key_is}
use Rattle.links_entry.specs.View.{link_of}
use borrow.Author.Rules.{rules}
use borrow.Author.Tests.{eq-eqb, ne_eqb}
use mathlib.Core.List.{[]}
use mathlib.Core.Path.{◌∙◌, sym}
use Rattle.links_entry.proofs.read.find_link.Goals as goal

pub loop-i-init : goal.loop-i-init
loop-i-init c = scan_kept _ link_of c.requires.kept

pub returns-then-n-get_be : goal.returns-then-n-get_be
returns-then-n-get_be c = sym (scan_hit c.loop-i.invariant [] (search rules) (eq-eqb _ _ (c.if-n-get_be.true ∙ key_is c.requires (search rules) c.get_be.ensures.value)))

pub loop-i-preserved : goal.loop-i-preserved
loop-i-preserved c = scan_skip c.loop-i.invariant [] (search rules) (ne_eqb _ _ (λ e. c.if-n-get_be.false (e ∙ sym (key_is c.requires (search rules) c.get_be.ensures.value))))

pub returns : goal.returns
returns c = sym (scan_end c.loop-i.invariant (search rules))
