use Rattle.std.proofs.Common.{◌≡◌}
use Rattle.test_script.specs.Step.{word_start}
use Rattle.test_script.proofs.word_start.Given as goal

abbrev pub invariant-loop-i : goal.invariant-loop-i
invariant-loop-i l = l.at ≡ word_start l.text l._i
