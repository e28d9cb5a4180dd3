use Rattle.std.proofs.Common.{◌∙◌, rules}
use borrow.Author.Tests.{tests}
use Rattle.std.proofs.lemmas.Iterator.{YieldsList-from_slice}
use Rattle.std.proofs.lemmas.Iterator.Search.{any_from_yields_List}
use Rattle.rules.specs.Base.{same}
use Rattle.lib_laws.specs.Numbers.{same_pointwise}
use Rattle.gates_types.specs.View.{view_replay}
use Rattle.lib_laws.specs.Filter.{any_map}
use Rattle.gates_replays.proofs.seen_in.Goals as goal

pub returns : goal.returns
returns c =
    any_from_yields_List (λ x. same c.args.digest.0 x.digest.0) _ _ _ c.any.ensures.ran (YieldsList-from_slice c.args.r.now.items (cc)) (λ x b q k. search (rules, tests, same_pointwise))
    ∙ any_map (λ r. same c.args.digest.0 r.ephemeral) view_replay c.args.r.now.items
