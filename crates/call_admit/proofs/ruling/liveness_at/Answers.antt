-- `call_admit::ruling::liveness_at` meets its contract.
use Rattle.call_admit.specs.Ruling.{lives_some}
use Rattle.call_admit.proofs.ruling.liveness_at.Goals as goal

pub returns : goal.returns
returns c = lives_some _ c.held_heard.ensures c.held_installed.ensures c.held_last.ensures
