use mathlib.Core.Path.{refl}
use Rattle.lib_laws.specs.Splice.{wrote_then}
use Rattle.rules.specs.Data.{Rekey}
use Rattle.rules.specs.Output.{output_bytes}
use Rattle.output_field.specs.Part.{written}
use Rattle.output_record.proofs.put.put_rekey.Goals as goal

pub returns : goal.returns
unfolding output_bytes
returns c = written (Rekey _ _ _) _ _ c.put_kind-a.ensures (wrote_then (wrote_then c.put_fixed-b.ensures c.put_flag-c.ensures) c.put_flag.ensures) refl refl
