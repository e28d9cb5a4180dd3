-- `call_msg1::msg1::new_msg1` meets its contract.
use mathlib.Core.Path.{sym, ◌∙◌}
use Rattle.lib_laws.specs.Place.{place_within, find_at, find_nowhere}
use Rattle.input_call.specs.Hello.{hello_of}
use Rattle.held.specs.View.{no_held}
use Rattle.call_contract.specs.Did.{space_result, ruled_is}
use Rattle.call_msg1.specs.Msg1.{msg1_new}
use Rattle.call_msg1.proofs.msg1.new_msg1.Goals as goal

pub held_msg1-requires : goal.held_msg1-requires
held_msg1-requires c =
    let e = (sym c.find_held.ensures ∙ c.in-Some.is) in
    record { ready = c.requires.ready; fit_hello = c.requires.fit_hello; t_bound = c.requires.t_bound; t_value = c.requires.t_value; i_in_bounds = place_within _ _ _ e; t_value_2 = find_at _ _ _ e no_held; space = c.requires.space }

pub admit_new-requires : goal.admit_new-requires
admit_new-requires c =
    let e = find_nowhere _ _ (sym c.find_held.ensures ∙ c.in-None.is) in
    record { ready = c.requires.ready; fit_hello = c.requires.fit_hello; t_bound = c.requires.t_bound; t_value = e; space = space_result c.requires.space (msg1_new _ (hello_of c.args.s.now c.args.h) _ _ c.requires.t_value e) }

pub returns-in-None : goal.returns-in-None
returns-in-None c =
    let e = find_nowhere _ _ (sym c.find_held.ensures ∙ c.in-None.is) in
    ruled_is c.admit_new.ensures (sym (msg1_new _ (hello_of c.args.s.now c.args.h) _ _ c.requires.t_value e))
