use Rattle.std.proofs.Common.{rules}
use Rattle.lib_laws.specs.Numbers.{wrote_copy}
use Rattle.lib_bytes.proofs.write.put_run.Goals as goal

pub returns : goal.returns
returns c = wrote_copy _ _ _ _ _ _ c.requires.n_in_bounds c.requires.n_in_bounds_2 (search rules)
