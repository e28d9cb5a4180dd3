-- `links_entry::read::setup_eq_wire` meets its contract.
use Rattle.links_entry.specs.Here.{reading}
use Rattle.links_entry.proofs.read.setup_eq_wire.Goals as goal

pub overflow_mul-i : goal.overflow_mul-i
overflow_mul-i c = search reading

pub overflow_add-i : goal.overflow_add-i
overflow_add-i c = search reading

pub eq_wire_pair-requires : goal.eq_wire_pair-requires
eq_wire_pair-requires c = search reading

pub returns : goal.returns
returns c = search reading
