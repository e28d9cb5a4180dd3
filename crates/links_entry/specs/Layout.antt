-- A link's entry and the region of them, as src/layout.rt has them.
use Rattle.std.specs.Prelude.{ℕ, ◌+◌, ◌*◌, ◌≡◌, refl, List, [], ◌∷◌}
use Rattle.lib_laws.specs.Fields.{ends}
use Rattle.node_addr.specs.Layout.{pair_width}

-- ---- a path: pair, state (0 Live, 1 Acked, 2 Probing). Four of them, and their count
abbrev pub at_path_state : ℕ
at_path_state = 53

abbrev pub path_width : ℕ
path_width = 54

abbrev pub path_cap : ℕ
path_cap = 4

abbrev pub at_path_count : ℕ
at_path_count = 216

abbrev pub paths_len : ℕ
paths_len = 217

-- ---- a link: no, setup, dir (0 Inbound, 1 Outbound), holder (1 and zeros: a leg; 0 and the peer), released, paths
abbrev pub link_ws : List ℕ
link_ws = 8 ∷ pair_width ∷ 1 ∷ 17 ∷ 1 ∷ paths_len ∷ []

abbrev pub at_setup : ℕ
at_setup = 8

abbrev pub at_dir : ℕ
at_dir = 61

abbrev pub at_holder : ℕ
at_holder = 62

abbrev pub at_holder_peer : ℕ
at_holder_peer = 63

abbrev pub at_released : ℕ
at_released = 79

abbrev pub at_paths : ℕ
at_paths = 80

abbrev pub at_link_path_count : ℕ
at_link_path_count = 296

abbrev pub link_width : ℕ
link_width = 297

-- the end of a new link's entry, which is zeros
abbrev pub opened_blank : ℕ
opened_blank = 234

-- ---- the region: 32 entries, and their count
abbrev pub link_cap : ℕ
link_cap = 32

abbrev pub at_link_count : ℕ
at_link_count = 9504

abbrev pub links_len : ℕ
links_len = 9505

-- each cell begins where the one before it ends, and the count stands behind the entries
pub path_cells : ends 0 (pair_width ∷ 1 ∷ []) ≡ at_path_state ∷ path_width ∷ []
path_cells = refl

pub link_cells : ends 0 link_ws ≡ at_setup ∷ at_dir ∷ at_holder ∷ at_released ∷ at_paths ∷ link_width ∷ []
link_cells = refl

pub path_count : ends 0 (path_cap * path_width ∷ 1 ∷ []) ≡ at_path_count ∷ paths_len ∷ []
path_count = refl

pub link_count : ends 0 (link_cap * link_width ∷ 1 ∷ []) ≡ at_link_count ∷ links_len ∷ []
link_count = refl

pub link_path_count : at_paths + at_path_count ≡ at_link_path_count
link_path_count = refl

pub opened_blank_lem : at_holder_peer + opened_blank ≡ link_width
opened_blank_lem = refl
