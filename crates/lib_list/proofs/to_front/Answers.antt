use Rattle.std.proofs.Common.{◌≡◌, ◌<◌, ◌∷◌, ◌++◌, [], true, false, length, get_or, ◌∙◌, arith, of_calls}
use Rattle.std.specs.Fn.{CalledAt}
use Rattle.std.proofs.lemmas.Fn.{called_at}
use Rattle.std.proofs.Retain.{answers_push, retain_drops, retain_unvisited}
use Rattle.lib_list.proofs.Moved.{kept_more}
use Rattle.lib_list.proofs.to_front.Goals.{then-f, else-f}
use Rattle.lib_list.proofs.to_front.Goals as goal

pub loop-i-preserved : goal.loop-i-preserved
loop-i-preserved g c =
    let at = c.loop-i in
    let xs = c.args.xs.now in
    let bs = at.invariant.2.0 in
    let so_far = at.invariant.2.1 in
    let x = c.index-xs-i.result in
    let R = CalledAt g.F.FnMut in
    let s = so_far.0 in
    let h : at.i < length at.xs = omega arith in
    let e : length at.xs ≡ length xs = c.loop-i.auto.xs in
    let read : x ≡ get_or xs (length bs) x = c.index-xs-i.is ∙ retain_unvisited bs xs at.xs at.kept at.i x so_far in
    elim c.if-f.branch [
      | then-f w ↦ (
        omega arith,
        search of_calls,
        (
          bs ++ true ∷ [],
          rw (w.xs-is, w.kept-is) (kept_more bs xs at.xs at.kept at.i x at.invariant.0 h e c.index-xs-i.is so_far),
          answers_push R c.args.f at.f c.f.new.self bs xs x true (omega arith) read at.invariant.2.2 (called_at g.F.FnMut c.f.ensures w.if-f.true),
        ),
      )
      | else-f w ↦ (
        omega arith,
        search of_calls,
        (
          bs ++ false ∷ [],
          rw (w.xs-is, w.kept-is) (retain_drops bs xs at.xs at.kept at.i so_far),
          answers_push R c.args.f at.f c.f.new.self bs xs x false (omega arith) read at.invariant.2.2 (called_at g.F.FnMut c.f.ensures w.if-f.false),
        ),
      )
    ]

pub returns-clause-filtered : goal.returns-clause-filtered
returns-clause-filtered g c =
    let a = c.loop-i.invariant.2 in
    let s = a.1.0 in
    (a.0, c.loop-i.f, omega arith, a.2, a.1.1.0)
