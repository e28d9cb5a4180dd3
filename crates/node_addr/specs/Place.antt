-- Pairs and messages in lent memory: what their cells show, when a cell is canonical, what is written; and a pair as a record spells it. Their laws: proofs/Cells.
use Rattle.std.specs.Prelude.{◌≡◌, ◌++◌, ℕ, ◌+◌, ◌≤◌, length, take, drop, get_or}
use Rattle.rules.specs.Base.{Bytes}
use Rattle.rules.specs.Data.{Pair}
use Rattle.rules.specs.Field.{digits}
use Rattle.lib_laws.specs.Cell.{num, text_of, Text}
use Rattle.node_addr.specs.Layout.{message_width, pair_width}
use Rattle.node_addr.specs.Padded.{cell}
use Rattle.node_addr.specs.declared.padded.Padded.{Padded}
use Rattle.node_addr.specs.declared.Pair as pair

-- ---- a pair, 53 bytes: transport 4, length 1, address 48 with zeros behind

unfoldable pub pair_of : Bytes → Pair
pair_of c = record { transport = num (take 4 c); addr = text_of (take 1 (drop 4 c)) (take 48 (drop 5 c)) }

pub record PairCell (c : Bytes) : Type 0 where
  pub size : length c ≡ pair_width
  pub addr : Text 48 (take 1 (drop 4 c)) (take 48 (drop 5 c))

-- what is written of p
unfoldable pub pair_cell : pair.Pair → Bytes
pair_cell p = digits 4 p.transport.0 ++ cell p.addr

-- ---- a pair as a record spells it: transport 4, length 1, and as many bytes

unfoldable pub pair_here : Bytes → Pair
pair_here s = record { transport = num (take 4 s); addr = take (get_or s 4 0) (drop 5 s) }

-- it stands whole at a place; a clause, since it ties the place to the record
pub record PairIn (s : Bytes) (at : ℕ) : Type 0 where
  pub small : get_or s (at + 4) 0 ≤ 48
  pub room : at + 5 + get_or s (at + 4) 0 ≤ length s

-- ---- a message, 129 bytes: length 1, bytes 128 with zeros behind

unfoldable pub message_of : Bytes → Bytes
message_of c = text_of (take 1 c) (take 128 (drop 1 c))

pub record MessageCell (c : Bytes) : Type 0 where
  pub size : length c ≡ message_width
  pub text : Text 128 (take 1 c) (take 128 (drop 1 c))

-- what is written of m
unfoldable pub message_cell : Padded 128 → Bytes
message_cell m = cell m
