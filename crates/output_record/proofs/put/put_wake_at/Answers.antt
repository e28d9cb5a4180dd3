use Rattle.std.specs.Prelude.{Some}
use mathlib.Core.Path.{refl}
use Rattle.lib_laws.specs.Splice.{wrote_then}
use Rattle.rules.specs.Data.{Output}
use Rattle.rules.specs.Output.{output_bytes}
use Rattle.output_field.specs.Part.{written}
use Rattle.output_record.proofs.put.put_wake_at.Goals as goal

pub returns : goal.returns
unfolding output_bytes
returns c = written (Output.Wake (Some _)) _ _ c.put_kind-a.ensures (wrote_then c.put_byte-b.ensures c.put_be.ensures) refl refl
