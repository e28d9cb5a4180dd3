use Rattle.std.specs.Prelude.{None}
use mathlib.Core.Path.{refl}
use Rattle.lib_laws.specs.Splice.{wrote_then}
use Rattle.rules.specs.Data.{Reject}
use Rattle.rules.specs.Output.{output_bytes}
use Rattle.output_field.specs.Part.{written}
use Rattle.output_record.proofs.put.put_reject_unasked.Goals as goal

pub returns : goal.returns
unfolding output_bytes
returns c = written (Reject None _) _ _ c.put_kind-a.ensures (wrote_then c.put_byte-b.ensures (rw c.denial_code.ensures at c.put_byte.ensures)) refl refl
