-- `links_entry::read::no_at` meets its contract.
use Rattle.links_entry.specs.Here.{reading}
use Rattle.links_entry.proofs.read.no_at.Goals as goal

pub overflow_mul-i : goal.overflow_mul-i
overflow_mul-i c = search reading

pub get_be-n-requires : goal.get_be-n-requires
get_be-n-requires c = search reading

pub returns : goal.returns
returns c = search reading
