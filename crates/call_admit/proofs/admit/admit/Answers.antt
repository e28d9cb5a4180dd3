-- `call_admit::admit::admit` meets its contract.
use mathlib.Core.Path.{sym, ◌∙◌}
use Rattle.lib_laws.specs.Place.{place_within, find_at, find_nowhere}
use Rattle.gates_types.specs.View.{source_of}
use Rattle.input_call.specs.Hello.{hello_of}
use Rattle.held.specs.View.{no_held}
use Rattle.call_contract.specs.Did.{space_result, ruled_is}
use Rattle.call_admit.specs.Admit.{new_asked}
use Rattle.call_admit.proofs.admit.admit.Goals as goal

pub admit_held-requires : goal.admit_held-requires
admit_held-requires c =
    let e = (sym c.find_held.ensures ∙ c.in-Some.is) in
    record { ready = c.requires.ready; fit_hello = c.requires.fit_hello; i_in_bounds = place_within _ _ _ e; t_value = find_at _ _ _ e no_held; t_bound = c.requires.t_bound; space = c.requires.space }

pub admit_new-requires : goal.admit_new-requires
admit_new-requires c =
    let e = find_nowhere _ _ (sym c.find_held.ensures ∙ c.in-None.is) in
    record { ready = c.requires.ready; fit_hello = c.requires.fit_hello; t_bound = c.requires.t_bound; t_value = e; space = space_result c.requires.space (new_asked _ (hello_of c.args.s.now c.args.h) _ e (source_of c.args.source)) }

pub returns-in-None : goal.returns-in-None
returns-in-None c =
    let e = find_nowhere _ _ (sym c.find_held.ensures ∙ c.in-None.is) in
    ruled_is c.admit_new.ensures (sym (new_asked _ (hello_of c.args.s.now c.args.h) _ e (source_of c.args.source)))
