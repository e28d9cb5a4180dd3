use Rattle.std.proofs.Common.{◌≡◌, ◌∙◌}
use Rattle.gates_silence.proofs.Among.{among}
use Rattle.gates_silence.proofs.counted.counted_in.Goals as goal

pub returns : goal.returns
returns c = let e : c.deref.result.now ≡ c.args.r.now.items = cc in c.contains.ensures.value ∙ rw e (among c.args.digest.0 c.args.r.now.items)
