-- `call_close::close::close_links` meets its contract.
use mathlib.Core.Path.{sym, ◌∙◌}
use Rattle.call_contract.specs.Did.{wrote_length}
use Rattle.call_close.specs.Close.{nothing_closed, header_place, header_room, closed}
use Rattle.lib_laws.specs.Both.{both_3}
use Rattle.call_close.proofs.close.close_links.Goals as goal

pub returns-then-count-eq0 : goal.returns-then-count-eq0
returns-then-count-eq0 c = record { told = c.retire_links-r.ensures.told; puts = nothing_closed c.requires.space c.retire_links-r.ensures.listed c.if-count-eq0.true }

pub overflow_sub-end : goal.overflow_sub-end
overflow_sub-end c = (header_place c.requires.space c.retire_links-r.ensures.listed c.if-count-eq0.false).0

pub overflow_sub-end-2 : goal.overflow_sub-end-2
overflow_sub-end-2 c = (header_place c.requires.space c.retire_links-r.ensures.listed c.if-count-eq0.false).1

pub put_close_header-requires : goal.put_close_header-requires
put_close_header-requires c = both_3 (λ a b d. record { count_bound = a; n_bound = b; at_in_bounds = d }) (header_room c.requires.space c.retire_links-r.ensures.listed c.if-count-eq0.false c.retire_links-r.ensures.count_bound)

pub shape_of-t : goal.shape_of-t
shape_of-t c = c.retire_links-r.ensures.told.fit.size ∙ sym c.requires.fit_table.size

pub shape_of-out : goal.shape_of-out
shape_of-out c = wrote_length c.put_close_header.ensures ∙ c.retire_links-r.ensures.listed.size

pub returns : goal.returns
returns c = record { told = c.retire_links-r.ensures.told; puts = closed c.requires.space c.retire_links-r.ensures.listed c.if-count-eq0.false c.put_close_header.ensures }
