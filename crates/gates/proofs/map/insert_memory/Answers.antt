use borrow.Author.Rules.{rules}
use Rattle.lib_laws.specs.Store.{chunking}
use Rattle.gates.specs.Put.{put_new}
use Rattle.lib_laws.specs.Both.{both}
use Rattle.gates.proofs.map.insert_memory.Goals as goal

pub open_chunk-requires : goal.open_chunk-requires
open_chunk-requires c = search chunking

pub returns : goal.returns
returns c = both (λ a b. record { fit_gates_2 = a; s_after = b }) (put_new c.args.m c.requires.fit_memory (search rules) c.requires.fit_gates c.requires.s_bound c.place_of-at.ensures c.open_chunk.ensures c.put_memory.ensures)
