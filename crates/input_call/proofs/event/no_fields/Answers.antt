use Rattle.input_call.proofs.Read.{reads_bare}
use Rattle.input_call.proofs.event.no_fields.Goals as goal

pub returns : goal.returns
returns c = λ v. reads_bare _ v c.new.ensures c.end.ensures
