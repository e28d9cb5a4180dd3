-- `call_close::close::close_legs` meets its contract.
use mathlib.Core.Path.{sym, ◌∙◌}
use Rattle.call_contract.specs.Did.{puts_length}
use Rattle.call_close.specs.Close.{legs_space, links_space, legs_did}
use Rattle.call_close.proofs.close.close_legs.Goals as goal

pub free_all-a-requires : goal.free_all-a-requires
free_all-a-requires c = record { fit_table = c.requires.fit_table; space = legs_space _ c.requires.space }

pub close_links-b-requires : goal.close_links-b-requires
close_links-b-requires c = record { fit_table = c.requires.fit_table; space = links_space _ c.requires.space c.free_all-a.ensures }

pub clear_legs-requires : goal.clear_legs-requires
clear_legs-requires c = c.close_links-b.ensures.told.fit

pub shape_of-t : goal.shape_of-t
shape_of-t c = c.clear_legs.ensures.fit.size ∙ sym c.requires.fit_table.size

pub shape_of-out : goal.shape_of-out
shape_of-out c = puts_length c.close_links-b.ensures.puts ∙ puts_length c.free_all-a.ensures

pub returns : goal.returns
returns c = legs_did _ c.free_all-a.ensures c.close_links-b.ensures.told c.close_links-b.ensures.puts c.clear_legs.ensures
