use Rattle.std.proofs.Common.{length, take}
use Rattle.lib_laws.specs.Splice.{Wrote}
use Rattle.output_closes.specs.Lists.{row}
use Rattle.output_closes.proofs.put_pairs.Given as goal

-- those before the pair are put
abbrev pub invariant-loop-p : goal.invariant-loop-p
invariant-loop-p l = Wrote l.initial.out l.at (length (row (take l.p-index l.p-items))) (row (take l.p-index l.p-items)) l.out l.e
