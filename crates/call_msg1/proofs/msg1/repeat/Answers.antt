-- `call_msg1::msg1::repeat` meets its contract.
use Rattle.rules.specs.Data.{Free}
use Rattle.output_record.specs.Write.{puts_one}
use Rattle.call_contract.specs.Did.{space_head, space_tail, puts_cons}
use Rattle.call_msg1.proofs.msg1.repeat.Goals as goal

pub put_msg2-a-requires-clause-i_in_bounds_2 : goal.put_msg2-a-requires-clause-i_in_bounds_2
put_msg2-a-requires-clause-i_in_bounds_2 c = space_head _ c.requires.space

pub put_free-requires : goal.put_free-requires
put_free-requires c = space_head (Free c.args.lease) (space_tail _ c.requires.space c.put_msg2-a.ensures)

pub returns : goal.returns
returns c = puts_cons _ c.put_msg2-a.ensures (puts_one _ c.put_free.ensures)
