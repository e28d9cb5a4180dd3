use Rattle.std.specs.Prelude.{None}
use mathlib.Core.Path.{refl}
use Rattle.rules.specs.Data.{Output}
use Rattle.rules.specs.Output.{output_bytes}
use Rattle.output_field.specs.Part.{written}
use Rattle.output_record.proofs.put.put_wake_never.Goals as goal

pub returns : goal.returns
unfolding output_bytes
returns c = written (Output.Wake None) _ _ c.put_kind-a.ensures c.put_byte.ensures refl refl
