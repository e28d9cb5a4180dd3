use Rattle.lib_laws.specs.Parse.{counting}
use Rattle.lib_bytes.proofs.read.get_few.Goals as goal

pub overflow_mul-v : goal.overflow_mul-v
overflow_mul-v c = search counting

pub overflow_add-v-in-loop-i : goal.overflow_add-v-in-loop-i
overflow_add-v-in-loop-i c = search (counting, c.type_inv.s)

pub loop-i-preserved : goal.loop-i-preserved
loop-i-preserved c = search (counting, c.type_inv.s)

pub returns : goal.returns
returns c = search counting
