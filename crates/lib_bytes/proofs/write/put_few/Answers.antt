use Rattle.lib_laws.specs.Splice.{writing}
use Rattle.lib_bytes.proofs.write.put_few.Goals as goal

pub loop-i-preserved : goal.loop-i-preserved
loop-i-preserved c = search writing

pub returns : goal.returns
returns c = search writing
