use Rattle.std.proofs.Common.{refl}
use Rattle.test_script.specs.Step.{word_start, word_more}
use Rattle.test_script.proofs.word_start.Goals as goal

pub loop-i-init : goal.loop-i-init
unfolding word_start
loop-i-init c = refl

pub loop-i-preserved : goal.loop-i-preserved
loop-i-preserved c = word_more c.args.text.now _ c.loop-i.invariant c.next_word-at.ensures
