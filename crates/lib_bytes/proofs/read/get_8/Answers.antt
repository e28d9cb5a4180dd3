use Rattle.std.proofs.Common.{arith, ◌≡◌, length, length-take-le, length-drop}
use Rattle.lib_laws.specs.Numbers.{more_eight}
use Rattle.lib_bytes.proofs.read.get_8.Goals as goal

pub returns-clause-value : goal.returns-clause-value
returns-clause-value c =
    let l : length c.take.result ≡ 8 = rw (c.take.ensures) (length-take-le 8 _ (rw length-drop (omega arith))) in
    rw c.take.ensures at (more_eight c.take.result c.from_be_bytes.result l c.from_be_bytes.ensures)
