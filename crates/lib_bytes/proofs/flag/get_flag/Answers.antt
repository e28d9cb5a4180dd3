-- `lib_bytes::flag::get_flag` meets its contract.
use Rattle.lib_laws.specs.Cell.{flag_here}
use Rattle.lib_bytes.proofs.flag.get_flag.Goals as goal

pub returns : goal.returns
returns c = flag_here c.args.s.now c.args.at
