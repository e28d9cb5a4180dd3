use Rattle.lib_laws.specs.Numbers.{digits_two, digits_four, digits_eight}
use Rattle.lib_bytes.proofs.write.put_be.Goals as goal

pub returns-in-8 : goal.returns-in-8
returns-in-8 c = rw (c.in-8.is, ← digits_eight c.args.v, ← c.to_be_bytes.ensures) c.put.ensures

pub returns-in-4 : goal.returns-in-4
returns-in-4 c = rw (c.in-4.is, ← digits_four c.args.v, ← c.to_be_bytes-in-4.ensures) c.put-in-4.ensures

pub returns-in-2 : goal.returns-in-2
returns-in-2 c = rw (c.in-2.is, ← digits_two c.args.v, ← c.to_be_bytes-in-2.ensures) c.put-in-2.ensures
