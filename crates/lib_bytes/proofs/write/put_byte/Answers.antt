-- `lib_bytes::write::put_byte` meets its contract.
use Rattle.lib_laws.specs.Splice.{writing}
use Rattle.lib_bytes.proofs.write.put_byte.Goals as goal

pub bounds-s-at : goal.bounds-s-at
bounds-s-at c = search writing

pub overflow_add-result : goal.overflow_add-result
overflow_add-result c = search writing

pub shape_of-s : goal.shape_of-s
shape_of-s c = search writing

pub returns : goal.returns
returns c = search writing
