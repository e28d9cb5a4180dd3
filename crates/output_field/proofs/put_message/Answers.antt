-- `output_field::put_message` meets its contract.
use Rattle.std.proofs.Common.{arith, length, take_all}
use Rattle.lib_laws.specs.Splice.{wrote_then}
use Rattle.output_field.specs.Part.{message_written}
use Rattle.output_field.proofs.put_message.Goals as goal

pub returns : goal.returns
returns c =
    let m = c.args.m.now in
    rw (take_all (length m) m (omega arith)) at (message_written _ _ c.put_run.ensures.size (wrote_then c.put_be-a.ensures c.put_run.ensures))
