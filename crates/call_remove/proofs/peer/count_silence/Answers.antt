-- `call_remove::peer::count_silence` meets its contract.
use mathlib.Core.Path.{sym, ◌∙◌}
use Rattle.call_remove.specs.Peer.{part_ready, part_heard, part_unheard}
use Rattle.lib_laws.specs.Both.{both_5}
use Rattle.call_remove.proofs.peer.count_silence.Goals as goal

pub returns-then-held_heard : goal.returns-then-held_heard
returns-then-held_heard c = part_heard _ _ c.requires.ready.fit c.held_heard.ensures c.if-held_heard.true

pub held_epoch-epoch-requires : goal.held_epoch-epoch-requires
held_epoch-epoch-requires c = record { fit_table = c.requires.ready.fit; i_in_bounds = c.requires.i_in_bounds }

pub held_setup-setup-requires : goal.held_setup-setup-requires
held_setup-setup-requires c = record { fit_table = c.requires.ready.fit; i_in_bounds = c.requires.i_in_bounds }

pub params_of-c-requires : goal.params_of-c-requires
params_of-c-requires c = c.requires.ready.fit

pub ended-requires : goal.ended-requires
ended-requires c = both_5 (λ a b d e f. record { fit_table = a; ascending = b; all = d; fit_params = e; room = f }) (part_ready _ _ _ c.requires.ready c.params_of-c.ensures c.requires.t_value)

pub shape_of-t : goal.shape_of-t
shape_of-t c = c.ended.ensures.fit.size ∙ sym c.requires.ready.fit.size

pub returns : goal.returns
returns c = part_unheard _ _ _ _ c.requires.t_value c.held_heard.ensures c.if-held_heard.false c.held_epoch-epoch.ensures c.held_setup-setup.ensures c.params_of-c.ensures c.ended.ensures
