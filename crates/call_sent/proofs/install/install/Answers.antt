-- `call_sent::install::install` meets its contract.
use mathlib.Core.Path.{sym, ◌∙◌}
use Rattle.held.specs.View.{view_rec}
use Rattle.call_sent.specs.Install.{told_seated, held_left}
use Rattle.call_sent.proofs.install.install.Goals as goal

pub insert_held-requires : goal.insert_held-requires
insert_held-requires c = record { fit_table = c.hold_link.ensures.fit; t_len_bound = held_left _ (view_rec c.args.h) c.drop_leg.ensures c.hold_link.ensures c.requires.t_len_bound }

pub shape_of-t : goal.shape_of-t
shape_of-t c = c.insert_held.ensures.fit.size ∙ sym c.requires.fit_table.size

pub returns : goal.returns
returns c = told_seated _ (view_rec c.args.h) c.drop_leg.ensures c.hold_link.ensures c.insert_held.ensures
