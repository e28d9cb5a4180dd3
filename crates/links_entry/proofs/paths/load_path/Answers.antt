-- `links_entry::paths::load_path` meets its contract.
use Rattle.links_entry.proofs.paths.load_path.Goals as goal

pub returns : goal.returns
returns c = rw (c.pair_at.ensures, c.state_at.ensures)
