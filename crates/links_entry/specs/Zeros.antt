-- Zeroed memory is canonical and shows no links.
use Rattle.std.specs.Prelude.{◌≡◌, refl, [], ℕ, replicate}
use Rattle.std.proofs.Common.{lit<}
use Rattle.std.proofs.lemmas.List.{get_or-replicate}
use Rattle.rules.specs.Base.{Bytes}
use Rattle.lib_laws.specs.Store.{store_zeros}
use Rattle.node_addr.proofs.Cells.{pair_zeros}
use Rattle.links_entry.specs.Layout.{at_link_count, link_cap, link_width, links_len, path_cap, path_width, paths_len}
use Rattle.links_entry.specs.View.{FitPath, FitPaths, FitLink, FitLinks, view_links, link_count}

pub path_zeros : FitPath (replicate path_width 0)
path_zeros = record { pair = pair_zeros; state = record { size = refl; low = lit< tt } }

pub paths_zeros : FitPaths (replicate paths_len 0)
paths_zeros = store_zeros FitPath path_width path_cap path_zeros

pub link_zeros : FitLink (replicate link_width 0)
link_zeros = record {
  setup = pair_zeros;
  dir = record { size = refl; low = lit< tt };
  holder = record { flag = record { size = refl; low = lit< tt }; blank = λ q. cc };
  released = record { size = refl; low = lit< tt };
  paths = paths_zeros;
}

pub links_new : FitLinks (replicate links_len 0)
links_new = store_zeros FitLink link_width link_cap link_zeros

pub links_none : view_links (replicate links_len 0) ≡ []
links_none = none_of (replicate links_len 0) (get_or-replicate {A = ℕ} links_len at_link_count 0 0 (lit< tt))
  where
    none_of : (s : Bytes) → link_count s ≡ 0 → view_links s ≡ []
    none_of s e = rw e
