-- The regions of a table, as src/layout.rt has them.
use Rattle.std.specs.Prelude.{ℕ, ◌≡◌, refl, List, [], ◌∷◌}
use Rattle.lib_laws.specs.Fields.{ends}
use Rattle.params.specs.Layout.{head_len}
use Rattle.links_entry.specs.Layout.{links_len}
use Rattle.legs_entry.specs.Layout.{legs_len}
use Rattle.held.specs.Layout.{held_len}
use Rattle.gates_entry.specs.Layout.{gates_len}

abbrev pub at_head : ℕ
at_head = 0

abbrev pub at_links : ℕ
at_links = 98

abbrev pub at_legs : ℕ
at_legs = 9603

abbrev pub at_held : ℕ
at_held = 20836

abbrev pub at_gates : ℕ
at_gates = 25189

abbrev pub table_len : ℕ
table_len = 45478

-- they lie one behind another
pub regions : ends at_head (head_len ∷ links_len ∷ legs_len ∷ held_len ∷ gates_len ∷ []) ≡ at_links ∷ at_legs ∷ at_held ∷ at_gates ∷ table_len ∷ []
regions = refl
