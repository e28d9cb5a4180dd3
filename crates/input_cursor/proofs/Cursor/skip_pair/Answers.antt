use Rattle.std.proofs.Common.{refl, rules}
use Rattle.input_cursor.proofs.Field.{pair_none, pair_off, pair_on, over, within, within_none}
use Rattle.input_cursor.proofs.Cursor.skip_pair.Goals as goal

pub returns-in_err-at-clause-took : goal.returns-in_err-at-clause-took
returns-in_err-at-clause-took c = rw c.from_residual.ensures (pair_none c.in_err-at.ensures)

pub returns-then-n-gt-ADDR_CAP-clause-took : goal.returns-then-n-gt-ADDR_CAP-clause-took
returns-then-n-gt-ADDR_CAP-clause-took c = pair_off c.in_ok-at.ensures c.get_byte-n.ensures (over (search rules) refl refl)

pub returns-in_err-skip-clause-took : goal.returns-in_err-skip-clause-took
returns-in_err-skip-clause-took c = rw c.from_residual-in_err-skip.ensures (pair_off c.in_ok-at.ensures c.get_byte-n.ensures (within_none (search rules) c.in_err-skip.ensures))

pub returns-clause-took : goal.returns-clause-took
returns-clause-took c = pair_on c.in_ok-at.ensures c.get_byte-n.ensures (within (search rules) c.in_ok-skip.ensures)

pub returns-clause-stands : goal.returns-clause-stands
returns-clause-stands c = c.in_ok-at.ensures.place.0
