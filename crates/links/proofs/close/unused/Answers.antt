-- `links::close::unused` meets its contract.
use Rattle.std.proofs.Common.{◌∙◌, ap, rules, map}
use Rattle.std.proofs.Math.Bool.{not}
use Rattle.rules.specs.Links.{in_use}
use Rattle.std.proofs.lemmas.Fn.{filter_same}
use Rattle.links_entry.specs.View.{view_links}
use Rattle.node_addr.specs.View.{view_pair}
use Rattle.lib_laws.specs.Filter.{filter_map}
use Rattle.links.proofs.close.unused.Goals as goal

pub returns : goal.returns
returns c =
    ap (map view_pair) (filter_same _ (λ x. not (in_use (view_pair x) (view_links c.args.s.now))) _ (λ x b f' k. search rules) _ _ c.retain.ensures.filtered) ∙ filter_map (λ p. not (in_use p (view_links c.args.s.now))) view_pair c.args.l.now.items
