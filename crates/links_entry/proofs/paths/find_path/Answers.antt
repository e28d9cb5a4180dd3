use Rattle.lib_laws.specs.Scan.{scan_end, scan_hit, scan_kept, scan_skip}
use Rattle.links_entry.specs.Here.{path_same, pathing}
use Rattle.links_entry.specs.View.{path_of}
use Rattle.node_addr.specs.View.{view_pair}
use borrow.Author.Rules.{rules}
use mathlib.Core.List.{[]}
use mathlib.Core.Path.{◌∙◌, sym}
use Rattle.links_entry.proofs.paths.find_path.Goals as goal

pub loop-j-init : goal.loop-j-init
loop-j-init c = scan_kept _ path_of c.requires.kept

pub eq_pair_at-requires : goal.eq_pair_at-requires
eq_pair_at-requires c = search pathing

pub returns-then-eq_pair_at : goal.returns-then-eq_pair_at
returns-then-eq_pair_at c = sym (scan_hit c.loop-j.invariant [] (search rules) (sym (path_same c.requires (search rules) (view_pair c.args.p) c.eq_pair_at.ensures) ∙ c.if-eq_pair_at.true))

pub loop-j-preserved : goal.loop-j-preserved
loop-j-preserved c = scan_skip c.loop-j.invariant [] (search rules) (sym (path_same c.requires (search rules) (view_pair c.args.p) c.eq_pair_at.ensures) ∙ c.if-eq_pair_at.false)

pub returns : goal.returns
returns c = sym (scan_end c.loop-j.invariant (search rules))
