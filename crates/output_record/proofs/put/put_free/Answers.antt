use mathlib.Core.Path.{refl}
use Rattle.rules.specs.Data.{Free}
use Rattle.rules.specs.Output.{output_bytes}
use Rattle.output_field.specs.Part.{written}
use Rattle.output_record.proofs.put.put_free.Goals as goal

pub returns : goal.returns
unfolding output_bytes
returns c = written (Free _) _ _ c.put_kind-a.ensures c.put_be.ensures refl refl
