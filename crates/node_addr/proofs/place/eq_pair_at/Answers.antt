use Rattle.std.proofs.Common.{rules, arith, lit<}
use Rattle.node_addr.proofs.Cells.{pair_other, pair_told, pair_addr}
use Rattle.node_addr.proofs.place.eq_pair_at.Goals as goal

pub returns-then-get_be-p : goal.returns-then-get_be-p
returns-then-get_be-p c = pair_other c.args.s.now c.args.at c.args.p c.get_be.ensures.value (search rules)

pub is_cell-requires : goal.is_cell-requires
is_cell-requires c = (lit< tt, (omega arith, pair_addr c.args.s.now c.args.at c.requires.is_pair))

pub returns : goal.returns
returns c = pair_told c.args.s.now c.args.at c.args.p c.get_be.ensures.value (search rules) c.is_cell.ensures
