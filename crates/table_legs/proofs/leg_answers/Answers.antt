-- `table_legs::leg_answers` meets its contract.
use lib.Dec.{lit≤}
use Rattle.table_layout.specs.View.{view_table}
use Rattle.table_layout.proofs.Told.{part_end, leg_in}
use Rattle.table_legs.proofs.leg_answers.Goals as goal

pub slice_bounds-answers_at-end : goal.slice_bounds-answers_at-end
slice_bounds-answers_at-end c = part_end c.requires.fit_table (lit≤ tt)

pub answers_at-requires : goal.answers_at-requires
answers_at-requires c = record { fit_legs = c.requires.fit_table.legs; i_bound = leg_in c.requires.fit_table c.requires.i_in_bounds }

pub returns : goal.returns
unfolding view_table
returns c = c.answers_at.ensures
