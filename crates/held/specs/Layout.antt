-- A held peer's entry and the region of them, as src/layout.rt has them.
use Rattle.std.specs.Prelude.{ℕ, ◌*◌, ◌≡◌, refl, List, [], ◌∷◌}
use Rattle.lib_laws.specs.Fields.{ends}
use Rattle.node_addr.specs.Layout.{node_len, digest_len, pair_width}

-- peer, link, epoch, installed, heard, last behind its flag, setup behind its flag, current
abbrev pub held_ws : List ℕ
held_ws = node_len ∷ 8 ∷ 8 ∷ 8 ∷ 1 ∷ 1 ∷ 8 ∷ 1 ∷ digest_len ∷ pair_width ∷ []

abbrev pub at_held_link : ℕ
at_held_link = 16

abbrev pub at_held_epoch : ℕ
at_held_epoch = 24

abbrev pub at_installed : ℕ
at_installed = 32

abbrev pub at_heard : ℕ
at_heard = 40

abbrev pub at_has_last : ℕ
at_has_last = 41

abbrev pub at_last : ℕ
at_last = 42

abbrev pub at_has_setup : ℕ
at_has_setup = 50

abbrev pub at_held_setup : ℕ
at_held_setup = 51

abbrev pub at_current : ℕ
at_current = 83

abbrev pub held_width : ℕ
held_width = 136

-- ---- the region: 32 entries, and their count
abbrev pub held_cap : ℕ
held_cap = 32

abbrev pub at_held_count : ℕ
at_held_count = 4352

abbrev pub held_len : ℕ
held_len = 4353

-- each cell begins where the one before it ends, and the count stands behind the entries
pub held_cells : ends 0 held_ws ≡ at_held_link ∷ at_held_epoch ∷ at_installed ∷ at_heard ∷ at_has_last ∷ at_last ∷ at_has_setup ∷ at_held_setup ∷ at_current ∷ held_width ∷ []
held_cells = refl

pub held_count : ends 0 (held_cap * held_width ∷ 1 ∷ []) ≡ at_held_count ∷ held_len ∷ []
held_count = refl
