use mathlib.Core.Path.{refl}
use Rattle.lib_laws.specs.Splice.{wrote_then}
use Rattle.rules.specs.Data.{Output}
use Rattle.rules.specs.Output.{output_bytes}
use Rattle.output_code.proofs.Bytes.{why_byte}
use Rattle.output_field.specs.Part.{written}
use Rattle.output_record.proofs.put.put_remove.Goals as goal

pub returns : goal.returns
unfolding output_bytes
returns c = written (Output.Remove _ _) _ _ c.put_kind-a.ensures (wrote_then c.put_fixed-b.ensures (rw why_byte at c.put_byte.ensures)) refl refl
