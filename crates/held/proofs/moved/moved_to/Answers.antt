use Rattle.held.specs.Change.{changed_then}
use Rattle.held.proofs.moved.moved_to.Goals as goal

pub returns-clause-s_after : goal.returns-clause-s_after
returns-clause-s_after c = (changed_then c.requires.fit_held c.requires.i_bound (changed_then c.requires.fit_held c.requires.i_bound c.set_link.ensures c.set_heard.ensures) c.set_current.ensures).is
