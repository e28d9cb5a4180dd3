-- Up to so many bytes with zeros behind them, and the cell that holds them.
use Rattle.std.specs.Prelude.{ℕ, List, [], ◌∷◌, ◌++◌, take}
use Rattle.node_addr.specs.declared.padded.Padded.{Padded}

-- the bytes in use
abbrev pub view : {N : ℕ} → Padded N → List ℕ
view p = take p.len p.bytes

-- their length, then all
abbrev pub cell : {N : ℕ} → Padded N → List ℕ
cell p = (p.len ∷ []) ++ p.bytes
