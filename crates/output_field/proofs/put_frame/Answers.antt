-- `output_field::put_frame` meets its contract.
use Rattle.lib_laws.specs.Splice.{wrote_then}
use Rattle.output_field.specs.Part.{header_written}
use Rattle.output_field.proofs.put_frame.Goals as goal

pub returns : goal.returns
returns c = header_written _ _ (wrote_then (wrote_then c.put_be-a.ensures c.put_byte-b.ensures) c.put_byte.ensures)
