use Rattle.std.proofs.Common.{rules}
use Rattle.input_frame.proofs.Start.{heading_short, heading_length, heading_version, heading_read}
use Rattle.input_frame.proofs.read_frame.Goals as goal

pub returns-then-rec-lt-FRAME_LEN-clause-is : goal.returns-then-rec-lt-FRAME_LEN-clause-is
returns-then-rec-lt-FRAME_LEN-clause-is c = heading_short _ (search rules)

pub returns-then-get_be-rec-clause-is : goal.returns-then-get_be-rec-clause-is
returns-then-get_be-rec-clause-is c = heading_length _ (search rules) c.get_be.ensures.value (search rules)

pub returns-then-rec-ne-VERSION-clause-is : goal.returns-then-rec-ne-VERSION-clause-is
returns-then-rec-ne-VERSION-clause-is c = heading_version _ (search rules) c.get_be.ensures.value (search rules) (search rules)

pub returns-clause-is : goal.returns-clause-is
returns-clause-is c = heading_read _ (search rules) c.get_be.ensures.value (search rules) (search rules)
