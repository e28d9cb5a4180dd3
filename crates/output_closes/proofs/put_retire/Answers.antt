use Rattle.std.proofs.Common.{sym, ◌∙◌, arith}
use Rattle.lib_laws.specs.Splice.{wrote_then}
use Rattle.output_closes.specs.Lists.{pairs_small, pairs_count, retire_written}
use Rattle.output_closes.proofs.put_retire.Goals as goal

pub put_kind-a-requires : goal.put_kind-a-requires
put_kind-a-requires c = record { n_bound = omega (arith, pairs_small c.args.c.now); at_in_bounds = omega arith }

pub returns : goal.returns
returns c =
    retire_written _ _ _ _ c.put_pairs-e.ensures
    (wrote_then (wrote_then c.put_kind-a.ensures c.put_be-b.ensures) c.put_be.ensures)
    (omega (arith, c.put_pairs-e.ensures))
    (pairs_count c.args.c.now ∙ sym c.len-n.ensures.value)
