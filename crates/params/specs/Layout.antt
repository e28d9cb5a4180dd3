-- The head of the table: the node's own address, the settings, the next link number, as src/layout.rt has them.
use Rattle.std.specs.Prelude.{ℕ, ◌≡◌, refl, List, [], ◌∷◌}
use Rattle.lib_laws.specs.Fields.{ends}
use Rattle.node_addr.specs.Layout.{node_len}

-- the settings in the order of a record of new: seven spans, silent, resends, replays, counted, pending
abbrev pub settings_ws : List ℕ
settings_ws = 8 ∷ 8 ∷ 8 ∷ 8 ∷ 8 ∷ 8 ∷ 8 ∷ 4 ∷ 4 ∷ 1 ∷ 1 ∷ 8 ∷ []

abbrev pub at_settings : ℕ
at_settings = 16

abbrev pub settings_len : ℕ
settings_len = 74

abbrev pub at_next : ℕ
at_next = 90

abbrev pub head_len : ℕ
head_len = 98

-- each part begins where the one before it ends
pub head_parts : ends 0 (node_len ∷ settings_len ∷ 8 ∷ []) ≡ at_settings ∷ at_next ∷ head_len ∷ []
head_parts = refl

pub settings_cells : ends 0 settings_ws ≡ 8 ∷ 16 ∷ 24 ∷ 32 ∷ 40 ∷ 48 ∷ 56 ∷ 60 ∷ 64 ∷ 65 ∷ 66 ∷ settings_len ∷ []
settings_cells = refl
