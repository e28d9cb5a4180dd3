-- `lib_region::remove_chunk` meets its contract.
use lib.ListN.{length-set}
use native.Mathlib.Omega.{arith}
use Rattle.lib_laws.specs.Store.{chunking}
use Rattle.lib_region.proofs.remove_chunk.Goals as goal

pub overflow_mul-end : goal.overflow_mul-end
overflow_mul-end c = search chunking

pub bounds-s-end : goal.bounds-s-end
bounds-s-end c = search chunking

pub overflow_cast-last : goal.overflow_cast-last
overflow_cast-last c = search chunking

pub overflow_sub-last : goal.overflow_sub-last
overflow_sub-last c = search chunking

pub overflow_sub-n : goal.overflow_sub-n
overflow_sub-n c = search chunking

pub overflow_mul-n : goal.overflow_mul-n
overflow_mul-n c = search chunking

pub overflow_add-from : goal.overflow_add-from
overflow_add-from c = search chunking

pub overflow_mul-from : goal.overflow_mul-from
overflow_mul-from c = search chunking

pub overflow_mul-to : goal.overflow_mul-to
overflow_mul-to c = search chunking

pub overflow_mul-gone : goal.overflow_mul-gone
overflow_mul-gone c = search chunking

pub move_down-requires : goal.move_down-requires
move_down-requires c = search chunking

pub clear-requires : goal.clear-requires
clear-requires c = search chunking

pub overflow_cast-s : goal.overflow_cast-s
overflow_cast-s c = search chunking

pub bounds-s-end-2 : goal.bounds-s-end-2
bounds-s-end-2 c = search chunking

pub shape_of-s : goal.shape_of-s
shape_of-s c = simp length-set (omega arith)

pub returns : goal.returns
returns c = search chunking
