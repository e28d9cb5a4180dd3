-- `links::write::open_link` meets its contract.
use Rattle.lib_laws.specs.Splice.{wrote_then}
use Rattle.lib_laws.specs.Store.{pushed_is}
use Rattle.links.specs.Change.{opened_fit, opened_shows}
use Rattle.links_entry.proofs.Codes.{dir_tag}
use Rattle.links_entry.specs.View.{link_of, view_dir}
use borrow.Author.Rules.{rules}
use lib.ListN.{length-set}
use native.Mathlib.Omega.{arith}
use Rattle.lib_laws.specs.Both.{both}
use Rattle.links.proofs.write.open_link.Goals as goal

pub shape_of-s : goal.shape_of-s
shape_of-s c = simp length-set (omega arith)

pub returns : goal.returns
returns c =
    let v = view_dir c.args.d in
    both (λ a b. record { fit_links_2 = a; s_after = b }) (pushed_is link_of (search rules) (search rules) (wrote_then (wrote_then (wrote_then (wrote_then c.put_be-a.ensures c.put_pair-b.ensures) c.put_byte-c.ensures) c.put_byte-e.ensures) c.clear.ensures) (rw (dir_tag c.args.d) (opened_fit _ c.args.p v)) (rw (dir_tag c.args.d) (opened_shows _ c.args.p v (search rules) (search rules))))
