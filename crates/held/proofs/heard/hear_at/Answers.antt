use Rattle.held.specs.Change.{changed_then}
use Rattle.held.proofs.heard.hear_at.Goals as goal

pub returns-clause-s_after : goal.returns-clause-s_after
returns-clause-s_after c = (changed_then c.requires.fit_held c.requires.i_bound (changed_then c.requires.fit_held c.requires.i_bound c.take_current.ensures c.set_heard.ensures) c.set_last.ensures).is
