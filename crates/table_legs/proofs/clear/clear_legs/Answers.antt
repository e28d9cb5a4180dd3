-- `table_legs::clear::clear_legs` meets its contract.
use mathlib.Core.Path.{sym, ◌∙◌}
use lib.Dec.{lit≤}
use Rattle.table_layout.proofs.Told.{part_end}
use Rattle.table_legs.specs.Clear.{legs_room, legs_cleared, none_cleared}
use Rattle.table_legs.proofs.clear.clear_legs.Goals as goal

pub returns-then-leg_count-eq0 : goal.returns-then-leg_count-eq0
returns-then-leg_count-eq0 c = none_cleared c.requires (sym c.leg_count.ensures ∙ c.if-leg_count-eq0.true)

pub slice_bounds-clear-end : goal.slice_bounds-clear-end
slice_bounds-clear-end c = part_end c.requires (lit≤ tt)

pub clear-requires : goal.clear-requires
clear-requires c = legs_room c.requires

pub returns : goal.returns
returns c = legs_cleared c.requires c.clear.ensures
