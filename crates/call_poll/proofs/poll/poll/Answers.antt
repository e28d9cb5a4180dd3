-- `call_poll::poll::poll` meets its contract.
use mathlib.Core.Path.{sym, ◌∙◌}
use Rattle.call_contract.specs.Did.{puts_length}
use Rattle.call_poll.specs.Poll.{poll_first, poll_rest, poll_did}
use Rattle.call_poll.proofs.poll.poll.Goals as goal

pub reap-a-requires : goal.reap-a-requires
reap-a-requires c = record { ready = c.requires.ready; space = poll_first _ _ c.requires.space }

pub resend_due-requires : goal.resend_due-requires
resend_due-requires c = record { fit_table = c.reap-a.ensures.table.fit; space = poll_rest _ _ c.requires.space c.reap-a.ensures }

pub shape_of-t : goal.shape_of-t
shape_of-t c = c.reap-a.ensures.table.fit.size ∙ sym c.requires.ready.fit.size

pub shape_of-out : goal.shape_of-out
shape_of-out c = puts_length c.resend_due.ensures ∙ puts_length c.reap-a.ensures.puts

pub returns : goal.returns
returns c = poll_did _ _ c.reap-a.ensures c.resend_due.ensures
