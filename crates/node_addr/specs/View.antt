-- What the types by value show.
use Rattle.rules.specs.Data.{Pair}
use Rattle.node_addr.specs.declared.Pair as pair
use Rattle.node_addr.specs.Padded.{view}

abbrev pub view_pair : pair.Pair → Pair
view_pair p = record { transport = p.transport.0; addr = view p.addr }
