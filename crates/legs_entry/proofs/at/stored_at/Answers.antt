-- `legs_entry::at::stored_at` meets its contract.
use Rattle.legs_entry.specs.At.{off, on, stored_dial, stored_unsent, stored_other, stored_same}
use borrow.Author.Tests.{ne_eqb}
use mathlib.Core.Path.{◌≡◌, ◌∙◌}
use native.Mathlib.Omega.{arith}
use lib.ListN.{length, take, drop, length-take, length-drop}
use Rattle.std.proofs.Common.{ap}
use mathlib.Core.Bool.{not}
use Rattle.legs_entry.proofs.at.stored_at.Goals as goal

pub returns-then-not-answers_at : goal.returns-then-not-answers_at
returns-then-not-answers_at c = stored_dial _ _ (off c.answers_at.ensures (ap not c.if-not-answers_at.true))

pub returns-then-not-answer_sent_at : goal.returns-then-not-answer_sent_at
returns-then-not-answer_sent_at c = stored_unsent _ _ (on c.answers_at.ensures (ap not c.if-not-answers_at.false)) (off c.answer_sent_at.ensures (ap not c.if-not-answer_sent_at.true))

pub returns-then-msg1_len_at-n : goal.returns-then-msg1_len_at-n
returns-then-msg1_len_at-n c = stored_same _ _ (on c.answers_at.ensures (ap not c.if-not-answers_at.false)) (on c.answer_sent_at.ensures (ap not c.if-not-answer_sent_at.false)) c.msg1_len_at.ensures c.if-msg1_len_at-n.true c.eq_bytes.ensures

pub returns-else-msg1_len_at-n : goal.returns-else-msg1_len_at-n
returns-else-msg1_len_at-n c =
    let h : length (take c.args.n (drop c.args.at c.args.rec.now)) ≡ c.args.n = simp (length-take, length-drop) (omega arith) in
    ne_eqb _ _ c.if-msg1_len_at-n.false ∙ stored_other _ _ (on c.answers_at.ensures (ap not c.if-not-answers_at.false)) (on c.answer_sent_at.ensures (ap not c.if-not-answer_sent_at.false)) c.msg1_len_at.ensures h c.if-msg1_len_at-n.false
