use Rattle.output_record.specs.Write.{done_written}
use Rattle.output_record.proofs.put.put_done.Goals as goal

pub returns : goal.returns
returns c = done_written _ c.put_kind-a.ensures c.put_byte.ensures
