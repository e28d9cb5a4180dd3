-- `legs_entry::entry::put_leg` meets its contract.
use Rattle.legs_entry.specs.Entry.{put_leg_is}
use Rattle.lib_laws.specs.Splice.{wrote_then}
use Rattle.legs_entry.proofs.entry.put_leg.Goals as goal

pub returns : goal.returns
returns c = put_leg_is _ (wrote_then (wrote_then (wrote_then c.put_times-a.ensures c.put_ends-b.ensures) c.put_message-c.ensures) c.put_msg2.ensures)
