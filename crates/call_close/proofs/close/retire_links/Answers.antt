use Rattle.std.proofs.Common.{sym, ◌∙◌, rules}
use native.Mathlib.Omega.{arith}
use Rattle.call_close.specs.Close.{header_fits, retiring_start, retiring_within, count_fits, retiring_room, retiring_turn, retiring_skip, retiring_told, retiring_listed, retiring_most}
use Rattle.call_close.proofs.close.retire_links.Goals as goal

pub overflow_add-e : goal.overflow_add-e
overflow_add-e c = header_fits c.requires.space c.well_formed.1.0.1

pub loop-i-init : goal.loop-i-init
loop-i-init c = retiring_start c.requires.fit_table c.leg_count-n.ensures c.requires.space

pub leg_link-link-requires : goal.leg_link-link-requires
leg_link-link-requires c = record { fit_table = c.loop-i.invariant.fit; i_in_bounds = retiring_within c.loop-i.invariant (search rules) }

pub retire_link-c-requires : goal.retire_link-c-requires
retire_link-c-requires c = c.loop-i.invariant.fit

pub put_pairs-e-requires : goal.put_pairs-e-requires
put_pairs-e-requires c = retiring_room c.loop-i.invariant (search rules) c.retire_link-c.result {k = c.len-k.result} c.leg_link-link.ensures c.retire_link-c.ensures.told c.retire_link-c.ensures.result_value (search rules) (omega (arith, c.if-k-eq0.false))

pub overflow_add-count : goal.overflow_add-count
overflow_add-count c = count_fits c.loop-i.invariant (search rules) _ (search rules)

pub loop-i-preserved-then-k-eq0 : goal.loop-i-preserved-then-k-eq0
loop-i-preserved-then-k-eq0 c = retiring_skip c.loop-i.invariant (search rules) c.retire_link-c.result {k = c.len-k.result} c.leg_link-link.ensures c.retire_link-c.ensures.told c.retire_link-c.ensures.result_value (search rules) (omega (arith, c.if-k-eq0.true))

pub loop-i-preserved : goal.loop-i-preserved
loop-i-preserved c = retiring_turn c.loop-i.invariant (search rules) c.retire_link-c.result c.leg_link-link.ensures c.retire_link-c.ensures.told c.retire_link-c.ensures.result_value (search rules) (search rules) c.put_pairs-e.ensures

pub shape_of-t : goal.shape_of-t
shape_of-t c = c.loop-i.invariant.fit.size ∙ sym c.requires.fit_table.size

pub shape_of-out : goal.shape_of-out
shape_of-out c = c.loop-i.invariant.listed.size

pub returns : goal.returns
returns c = record { told = retiring_told c.loop-i.invariant (search rules); listed = retiring_listed c.loop-i.invariant (search rules); count_bound = retiring_most c.loop-i.invariant (search rules) }
