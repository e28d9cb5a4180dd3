-- `links::close::listed` meets its contract.
use Rattle.std.proofs.Common.{◌∙◌, rules}
use borrow.Author.Tests.{tests}
use Rattle.std.proofs.lemmas.Iterator.{YieldsList-from_slice}
use Rattle.std.proofs.lemmas.Iterator.Search.{any_from_yields_List}
use Rattle.rules.specs.Data.{same_pair}
use Rattle.node_addr.specs.View.{view_pair}
use Rattle.lib_laws.specs.Filter.{any_map}
use Rattle.node_addr.proofs.Equal.{pair_alike}
use Rattle.links.proofs.close.listed.Goals as goal

pub returns : goal.returns
returns c =
    any_from_yields_List (λ q. same_pair (view_pair c.args.p) (view_pair q)) _ _ _ c.any.ensures.ran (YieldsList-from_slice c.args.l.now.items (cc)) (λ x b q k. search (rules, tests, pair_alike))
    ∙ any_map (same_pair (view_pair c.args.p)) view_pair c.args.l.now.items
