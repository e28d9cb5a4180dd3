use Rattle.held.specs.Entry.{put_held_is}
use Rattle.lib_laws.specs.Splice.{wrote_then}
use Rattle.held.proofs.entry.put_held.Goals as goal

pub returns : goal.returns
returns c = put_held_is _
    (wrote_then (wrote_then (wrote_then (wrote_then (wrote_then (wrote_then (wrote_then c.put_fixed-a.ensures c.put_be-b.ensures) c.put_be-c.ensures) c.put_be-d.ensures) c.put_flag-e.ensures) c.put_option-f.ensures) c.put_optional-g.ensures) c.put_pair.ensures)
