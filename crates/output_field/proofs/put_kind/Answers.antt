-- `output_field::put_kind` meets its contract.
use Rattle.output_code.proofs.Bytes.{kind_byte}
use Rattle.output_field.proofs.put_kind.Goals as goal

pub returns : goal.returns
returns c = rw (← kind_byte c.args.kind) c.put_frame.ensures
