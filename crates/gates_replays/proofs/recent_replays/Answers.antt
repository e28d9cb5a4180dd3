use Rattle.std.proofs.Common.{◌≡◌, ◌∙◌, ap, rules, filter, map}
use Rattle.rules.specs.Data as rule
use Rattle.rules.specs.Gates.{recent}
use Rattle.std.proofs.lemmas.Fn.{filter_same}
use Rattle.gates_types.specs.View.{view_replay, spanned}
use Rattle.lib_laws.specs.Filter.{filter_map}
use Rattle.gates_types.specs.Loops.{few_filter}
use Rattle.gates_replays.proofs.recent_replays.Goals as goal

pub returns : goal.returns
returns c =
    let t = λ (r : rule.Replay). recent (spanned c.args.interval) c.args.clock r.seen in
    let e : c.retain.new.self.items ≡ filter (λ x. t (view_replay x)) c.args.r.now.items = filter_same _ (λ x. t (view_replay x)) _ (λ x b f' k. search rules) _ _ c.retain.ensures.filtered in
    record {
      fit_replays = few_filter c.requires (λ x. t (view_replay x)) e;
      r_after = ap (map view_replay) e ∙ filter_map t view_replay c.args.r.now.items;
    }
