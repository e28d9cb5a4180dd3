use mathlib.Core.Path.{refl}
use Rattle.rules.specs.Data.{Retry}
use Rattle.rules.specs.Output.{output_bytes}
use Rattle.output_field.specs.Part.{written}
use Rattle.output_record.proofs.put.put_retry.Goals as goal

pub returns : goal.returns
unfolding output_bytes
returns c = written (Retry _) _ _ c.put_kind-a.ensures c.put_fixed.ensures refl refl
