use Rattle.std.proofs.Common.{arith, ◌≡◌, ◌+◌, ◌-◌, length, take, drop, replicate, length-take-le, length-drop}
use Rattle.std.proofs.lemmas.List.{length-replicate}
use Rattle.lib_laws.specs.Numbers.{wrote_mid}
use Rattle.lib_bytes.proofs.write.clear.Goals as goal

pub returns : goal.returns
returns c =
    let v = c.args in
    let k : v.at + v.n - v.at ≡ v.n = omega arith in
    let l : length (take (v.at + v.n - v.at) (drop v.at v.s.now)) ≡ v.n = rw k (length-take-le v.n (drop v.at v.s.now) (rw length-drop (omega arith))) in
    wrote_mid v.s.now v.at v.n (replicate v.n 0) c.fill.new.self c.requires (length-replicate v.n 0) (rw l at (c.fill.ensures.after (λ y e. e)))
