use Rattle.lib_laws.specs.Splice.{wrote_then}
use Rattle.output_field.specs.Part.{pair_written}
use Rattle.output_field.proofs.put_pair.Goals as goal

pub returns : goal.returns
returns c = pair_written c.args.p (wrote_then (wrote_then c.put_be-t.ensures c.put_be-l.ensures) c.put.ensures)
