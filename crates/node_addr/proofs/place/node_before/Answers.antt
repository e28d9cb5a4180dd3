use Rattle.std.proofs.Common.{rules}
use Rattle.node_addr.specs.Alike.{before_whole}
use Rattle.node_addr.proofs.place.node_before.Goals as goal

pub returns : goal.returns
returns c = before_whole 16 c.args.a.0 c.args.b.0 (search rules) (search rules) c.lt_bytes.ensures
