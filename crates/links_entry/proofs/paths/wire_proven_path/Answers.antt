use Rattle.links_entry.specs.Asking.{and_then, and_else}
use Rattle.links_entry.specs.Here.{path_same, pathing}
use Rattle.links_entry.proofs.paths.wire_proven_path.Goals as goal

pub eq_wire_pair-requires : goal.eq_wire_pair-requires
eq_wire_pair-requires c = search pathing

pub returns-then-eq_wire_pair : goal.returns-then-eq_wire_pair
returns-then-eq_wire_pair c = and_then (path_same c.requires.fit_paths c.requires.j_bound _ c.eq_wire_pair.ensures) c.if-eq_wire_pair.true c.counts_at.ensures

pub returns-else-eq_wire_pair : goal.returns-else-eq_wire_pair
returns-else-eq_wire_pair c = and_else _ (path_same c.requires.fit_paths c.requires.j_bound _ c.eq_wire_pair.ensures) c.if-eq_wire_pair.false
