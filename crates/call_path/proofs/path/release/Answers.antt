-- `call_path::path::release` meets its contract.
use Rattle.call_path.specs.Path.{release_room, release_did}
use Rattle.call_path.proofs.path.release.Goals as goal

pub put_release-requires : goal.put_release-requires
put_release-requires c = release_room _ c.args.p c.args.keep _ _ c.release.ensures.else_value c.then_some-closed.ensures c.requires.space

pub returns : goal.returns
returns c = release_did _ c.args.p c.args.keep _ _ c.release.ensures.else_value c.then_some-closed.ensures c.release.ensures.told c.put_release.ensures
