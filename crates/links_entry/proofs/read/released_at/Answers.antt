-- `links_entry::read::released_at` meets its contract.
use Rattle.links_entry.specs.Here.{reading}
use Rattle.links_entry.proofs.read.released_at.Goals as goal

pub overflow_mul-i : goal.overflow_mul-i
overflow_mul-i c = search reading

pub overflow_add-i : goal.overflow_add-i
overflow_add-i c = search reading

pub get_byte-requires : goal.get_byte-requires
get_byte-requires c = search reading

pub returns : goal.returns
returns c = search reading
