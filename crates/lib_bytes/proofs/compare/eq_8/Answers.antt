use Rattle.std.specs.Prelude.{take, drop}
use Rattle.std.proofs.Common.{arith, sym, ◌∙◌, length-take-le, length-drop}
use Rattle.lib_laws.specs.Words.{number_same, octets_run}
use Rattle.lib_bytes.proofs.compare.eq_8.Goals as goal

pub returns : goal.returns
returns c =
    let v = c.args in
    let x = length-take-le 8 (drop v.at v.s.now) (rw length-drop (omega arith)) in
    let y = length-take-le 8 (drop v.from v.t.now) (rw length-drop (omega arith)) in
    rw (c.get_8.ensures.value, c.get_8-2.ensures.value) (
    sym (number_same 0 (take 8 (drop v.at v.s.now)) (take 8 (drop v.from v.t.now)) (octets_run 8 v.at v.s.now c.type_inv.s) (octets_run 8 v.from v.t.now c.type_inv.t) (x ∙ sym y)))
