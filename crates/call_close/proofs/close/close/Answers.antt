-- `call_close::close::close` meets its contract.
use mathlib.Core.Path.{sym, ◌∙◌}
use Rattle.call_contract.specs.Did.{puts_length}
use Rattle.call_close.specs.Remove.{close_first, close_ready, close_rest, close_did}
use Rattle.call_close.proofs.close.close.Goals as goal

pub close_legs-a-requires : goal.close_legs-a-requires
close_legs-a-requires c = record { fit_table = c.requires.ready.fit; space = close_first _ _ c.requires.space }

pub remove_all-requires : goal.remove_all-requires
remove_all-requires c = record { ready = close_ready c.close_legs-a.ensures c.requires.ready.sound; space = close_rest _ _ c.close_legs-a.ensures c.requires.space }

pub shape_of-t : goal.shape_of-t
shape_of-t c = c.remove_all.ensures.table.fit.size ∙ sym c.requires.ready.fit.size

pub shape_of-out : goal.shape_of-out
shape_of-out c = puts_length c.remove_all.ensures.puts ∙ puts_length c.close_legs-a.ensures.puts

pub returns : goal.returns
returns c = close_did _ _ c.close_legs-a.ensures c.remove_all.ensures
