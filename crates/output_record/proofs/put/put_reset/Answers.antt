use mathlib.Core.Path.{refl}
use Rattle.lib_laws.specs.Splice.{wrote_then}
use Rattle.rules.specs.Data.{Reset}
use Rattle.rules.specs.Output.{output_bytes}
use Rattle.output_code.proofs.Bytes.{transition_byte}
use Rattle.output_field.specs.Part.{written}
use Rattle.output_record.proofs.put.put_reset.Goals as goal

pub returns : goal.returns
unfolding output_bytes
returns c = written (Reset _ _) _ _ c.put_kind-a.ensures (wrote_then c.put_fixed-b.ensures (rw transition_byte at c.put_byte.ensures)) refl refl
