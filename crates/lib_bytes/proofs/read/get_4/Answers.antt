use Rattle.std.proofs.Common.{arith, ◌≡◌, length, length-take-le, length-drop}
use Rattle.lib_laws.specs.Numbers.{more_four}
use Rattle.lib_bytes.proofs.read.get_4.Goals as goal

pub returns-clause-value : goal.returns-clause-value
returns-clause-value c =
    let l : length c.take.result ≡ 4 = rw (c.take.ensures) (length-take-le 4 _ (rw length-drop (omega arith))) in
    rw c.take.ensures at (more_four c.take.result c.from_be_bytes.result l c.from_be_bytes.ensures)
