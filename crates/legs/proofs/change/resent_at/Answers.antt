-- `legs::change::resent_at` meets its contract.
use Rattle.legs_entry.specs.Start.{resent_is}
use Rattle.legs.specs.Change.{set_again}
use Rattle.legs_entry.specs.At.{sent_here}
use Rattle.legs_entry.specs.View.{view_legs, leg_at}
use Rattle.params.specs.View.{view_params}
use Rattle.rules.specs.Data.{Leg}
use Rattle.rules.specs.Std.{saturating_add}
use Rattle.lib_laws.specs.Splice.{wrote_then}
use Prim.Native.Nat.{ℕ}
use lib.ListN.{set}
use mathlib.Core.Path.{◌∙◌}
use borrow.Author.Rules.{rules}
use Rattle.std.proofs.Common.{ap}
use Rattle.legs.proofs.change.resent_at.Goals as goal

pub returns : goal.returns
returns c =
    let e = c.one_more-n.ensures ∙ ap (λ (x : ℕ). saturating_add x 1) (c.get_be.ensures.value ∙ sent_here c.requires.fit_legs c.requires.i_bound) in
    let k = set_again _ _ _ (wrote_then c.put_option-a.ensures c.put_be.ensures) c.requires.fit_legs c.requires.i_bound (search rules) (search rules) in
    record { fit_legs_2 = k.0; s_after = k.1 ∙ ap (λ (g : Leg). set (view_legs c.args.s.now) c.args.i g) (resent_is (view_params c.args.c) c.args.clock (leg_at c.args.s.now c.args.i) e c.resend_after-next.ensures) }
