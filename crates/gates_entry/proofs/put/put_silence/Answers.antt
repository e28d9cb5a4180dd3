use Rattle.lib_laws.specs.Splice.{wrote_then}
use Rattle.gates_entry.specs.Entry.{digests_bytes, put_silence_is}
use Rattle.gates_entry.proofs.put.put_silence.Goals as goal

pub returns : goal.returns
unfolding digests_bytes
returns c =
    put_silence_is _ (
    wrote_then (
    wrote_then (
    wrote_then (
    wrote_then c.put_option-a.ensures
    c.put_be-b.ensures
    ) c.put_be-c.ensures
    ) c.put_option-d.ensures
    ) c.put_row.ensures
    )
