use Rattle.std.proofs.Common.{rules}
use Rattle.node_addr.proofs.Cells.{pair_spelt}
use Rattle.node_addr.proofs.place.eq_wire_pair.Goals as goal

pub returns : goal.returns
returns c =
    pair_spelt
    c.args.s.now
    c.args.at
    c.args.rec.now
    c.args.from
    c.requires.is_pair
    (search rules)
    (search rules)
    c.type_inv.s
    c.type_inv.rec
    (rw c.get_byte.ensures at c.eq_bytes.ensures)
