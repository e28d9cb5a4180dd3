-- `params::head::get_pending` meets its contract.
use mathlib.Core.Path.{sym, ap, ◌∙◌}
use Rattle.rules.specs.Time.{Params}
use Rattle.params.specs.Head.{settings_at}
use Rattle.std.proofs.Common.{ap}
use Rattle.params.proofs.head.get_pending.Goals as goal

pub returns : goal.returns
returns c = c.get_be.ensures.value ∙ sym (ap (λ (p : Params). p.pending) (settings_at c.args.s.now))
