-- `tape::feed::next_record` meets its contract.
use mathlib.Core.Path.{◌∙◌}
use native.Mathlib.Omega.{arith}
use lib.Dec.{lit≤}
use Rattle.tape.specs.Feed.{cut_short, cut_whole}
use Rattle.tape.proofs.feed.next_record.Goals as goal

pub read_part-got-requires : goal.read_part-got-requires
read_part-got-requires c = record { from_le_to = lit≤ tt; to_in_bounds = omega (arith, c.requires) }

pub shape_of-buf-then-got-lt-U16 : goal.shape_of-buf-then-got-lt-U16
shape_of-buf-then-got-lt-U16 c = c.read_part-got.auto.buf

pub returns-then-got-lt-U16 : goal.returns-then-got-lt-U16
returns-then-got-lt-U16 c = cut_short c.if-got-lt-U16.true (c.read_part-got.auto.buf ∙ c.requires)

pub get_be-requires : goal.get_be-requires
get_be-requires c = record { n_bound = lit≤ tt; n_in_bounds = omega (arith, c.read_part-got.auto.buf, c.requires) }

pub overflow_add-end : goal.overflow_add-end
overflow_add-end c = record { fits = omega (arith, c.get_be.ensures.upper_bound) }

pub read_part-requires : goal.read_part-requires
read_part-requires c = record { from_le_to = omega arith; to_in_bounds = omega (arith, c.get_be.ensures.upper_bound, c.read_part-got.auto.buf, c.requires) }

pub overflow_add-result : goal.overflow_add-result
overflow_add-result c = record { fits = omega (arith, c.get_be.ensures.upper_bound, c.read_part.ensures.room) }

pub shape_of-buf : goal.shape_of-buf
shape_of-buf c = c.read_part.auto.buf ∙ c.read_part-got.auto.buf

pub returns : goal.returns
returns c = cut_whole c.get_be.ensures.upper_bound c.get_be.ensures.value c.read_part.ensures (c.read_part.auto.buf ∙ c.read_part-got.auto.buf ∙ c.requires)
