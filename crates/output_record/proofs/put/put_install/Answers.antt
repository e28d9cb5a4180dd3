use native.Mathlib.Omega.{arith}
use Rattle.lib_laws.specs.Splice.{wrote_then}
use Rattle.rules.specs.Data.{Install}
use Rattle.rules.specs.Output.{output_bytes, install_bytes}
use Rattle.output_code.proofs.Bytes.{build_byte}
use Rattle.output_field.specs.Part.{written}
use Rattle.output_record.proofs.put.put_install.Goals as goal

pub returns : goal.returns
unfolding output_bytes install_bytes
returns c =
    let built = rw build_byte at c.put_byte-b.ensures in
    written (Install _) _ _ c.put_kind-a.ensures
    (wrote_then
    (wrote_then (wrote_then (wrote_then (wrote_then c.put_fixed-x.ensures c.put_be-y.ensures) c.put_pair-z.ensures) built) c.put_flag-f.ensures)
    c.put_be.ensures)
    (omega arith)
    (omega arith)
