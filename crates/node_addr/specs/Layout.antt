-- Widths of what stands in records and in lent memory, as src/layout.rt has them.
use Rattle.std.specs.Prelude.{ℕ, ◌≡◌, refl, [], ◌∷◌}
use Rattle.lib_laws.specs.Fields.{ends}

-- ---- an address, a digest
abbrev pub node_len : ℕ
node_len = 16

abbrev pub digest_len : ℕ
digest_len = 32

-- ---- a pair in memory: transport 4, the address's length 1, the address at full width
abbrev pub addr_cap : ℕ
addr_cap = 48

abbrev pub at_pair_len : ℕ
at_pair_len = 4

abbrev pub at_pair_addr : ℕ
at_pair_addr = 5

abbrev pub pair_width : ℕ
pair_width = 53

-- ---- a message in memory: its length 1, then its full width
abbrev pub message_cap : ℕ
message_cap = 128

abbrev pub message_width : ℕ
message_width = 129

-- each cell begins where the one before it ends
pub pair_cells : ends 0 (4 ∷ 1 ∷ addr_cap ∷ []) ≡ at_pair_len ∷ at_pair_addr ∷ pair_width ∷ []
pair_cells = refl

pub message_cells : ends 0 (1 ∷ message_cap ∷ []) ≡ 1 ∷ message_width ∷ []
message_cells = refl
