-- `links_entry::paths::push_path` meets its contract.
use Rattle.lib_laws.specs.Splice.{wrote_then}
use Rattle.lib_laws.specs.Store.{pushed_is}
use Rattle.links_entry.proofs.Codes.{state_tag}
use Rattle.links_entry.specs.Paths.{new_fit, new_shows}
use Rattle.links_entry.specs.View.{path_of, view_proven}
use borrow.Author.Rules.{rules}
use lib.ListN.{length-set}
use native.Mathlib.Omega.{arith}
use Rattle.lib_laws.specs.Both.{both}
use Rattle.links_entry.proofs.paths.push_path.Goals as goal

pub shape_of-s : goal.shape_of-s
shape_of-s c = simp length-set (omega arith)

pub returns : goal.returns
returns c =
    let v = view_proven c.args.v in
    both (λ a b. record { fit_paths_2 = a; s_after = b }) (pushed_is path_of (search rules) (search rules) (wrote_then c.put_pair-a.ensures c.put_byte.ensures) (rw (state_tag c.args.v) (new_fit c.args.p v)) (rw (state_tag c.args.v) (new_shows c.args.p v (search rules))))
