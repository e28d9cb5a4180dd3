use Rattle.links_entry.specs.Here.{holder_leg, holder_peer}
use Rattle.links_entry.proofs.read.holder_at.Goals as goal

pub returns-then-get_byte-eq1 : goal.returns-then-get_byte-eq1
returns-then-get_byte-eq1 c = holder_leg c.requires.fit_links c.requires.i_bound c.get_byte.ensures c.if-get_byte-eq1.true

pub returns : goal.returns
returns c = holder_peer c.requires.fit_links c.requires.i_bound c.get_byte.ensures c.if-get_byte-eq1.false c.load_fixed.ensures
