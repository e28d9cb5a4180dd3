use Rattle.std.proofs.Common.{rules, take, drop}
use Rattle.node_addr.specs.Alike.{before_front}
use Rattle.node_addr.proofs.place.lt_node_at.Goals as goal

pub returns : goal.returns
returns c = before_front 16 c.args.n.0 (take 16 (drop c.args.at c.args.s.now)) (search rules) c.lt_bytes.ensures
