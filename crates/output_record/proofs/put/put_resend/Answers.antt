use native.Mathlib.Omega.{arith}
use Rattle.lib_laws.specs.Splice.{wrote_then}
use Rattle.rules.specs.Data.{Resend}
use Rattle.rules.specs.Output.{output_bytes}
use Rattle.output_field.specs.Part.{written}
use Rattle.output_record.proofs.put.put_resend.Goals as goal

pub returns : goal.returns
unfolding output_bytes
returns c = written (Resend _ _) _ _ c.put_kind-a.ensures (wrote_then c.put_be-b.ensures c.put_message.ensures) (omega arith) (omega arith)
