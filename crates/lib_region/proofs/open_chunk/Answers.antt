-- `lib_region::open_chunk` meets its contract.
use Rattle.lib_laws.specs.Store.{chunking}
use Rattle.lib_region.proofs.open_chunk.Goals as goal

pub overflow_mul-end : goal.overflow_mul-end
overflow_mul-end c = search chunking

pub bounds-s-end : goal.bounds-s-end
bounds-s-end c = search chunking

pub overflow_cast-len : goal.overflow_cast-len
overflow_cast-len c = search chunking

pub overflow_sub-n : goal.overflow_sub-n
overflow_sub-n c = search chunking

pub overflow_mul-n : goal.overflow_mul-n
overflow_mul-n c = search chunking

pub overflow_mul-from : goal.overflow_mul-from
overflow_mul-from c = search chunking

pub overflow_add-to : goal.overflow_add-to
overflow_add-to c = search chunking

pub overflow_mul-to : goal.overflow_mul-to
overflow_mul-to c = search chunking

pub move_up-requires : goal.move_up-requires
move_up-requires c = search chunking

pub overflow_add-s : goal.overflow_add-s
overflow_add-s c = search chunking

pub overflow_cast-s : goal.overflow_cast-s
overflow_cast-s c = search chunking

pub bounds-s-end-2 : goal.bounds-s-end-2
bounds-s-end-2 c = search chunking

pub shape_of-s : goal.shape_of-s
shape_of-s c = search chunking

pub returns : goal.returns
returns c = search chunking
