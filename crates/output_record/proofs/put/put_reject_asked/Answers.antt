use Rattle.std.specs.Prelude.{Some}
use mathlib.Core.Path.{refl}
use Rattle.lib_laws.specs.Splice.{wrote_then}
use Rattle.rules.specs.Data.{Reject}
use Rattle.rules.specs.Output.{output_bytes}
use Rattle.output_code.proofs.Bytes.{source_byte}
use Rattle.output_field.specs.Part.{written}
use Rattle.output_record.proofs.put.put_reject_asked.Goals as goal

pub returns : goal.returns
unfolding output_bytes
returns c =
    let source = rw source_byte at c.put_byte-e.ensures in
    let reason = rw c.denial_code.ensures at c.put_byte.ensures in
    written (Reject (Some _) _) _ _ c.put_kind-a.ensures
    (wrote_then (wrote_then (wrote_then c.put_byte-b.ensures c.put_fixed-c.ensures) source) reason)
    refl
    refl
