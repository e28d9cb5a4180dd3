-- What the bytes of an entry, a region and a held peer by value show, and their canonical form.
use Rattle.std.specs.Prelude.{refl, List, [], ℕ, get_or, replicate, option_map}
use Rattle.std.proofs.Common.{lit<}
use Rattle.rules.specs.Base.{Bytes}
use Rattle.rules.specs.Data.{Held}
use Rattle.lib_laws.specs.Cell.{num, flag_of, option_num, option_bytes, Code, Optional}
use Rattle.lib_laws.specs.Fields.{cuts}
use Rattle.lib_laws.specs.Store.{Store, entries}
use Rattle.node_addr.specs.View.{view_pair}
use Rattle.node_addr.specs.Place.{pair_of, PairCell}
use Rattle.node_addr.proofs.Cells.{pair_zeros}
use Rattle.held.specs.Layout.{held_ws, at_held_count, held_cap, held_width}
use Rattle.held.specs.declared.record.Held as held

-- ---- an entry: peer, link, epoch, installed, heard, has_last, last, has_setup, setup, current
-- the k-th cell
abbrev pub cell : List Bytes → ℕ → Bytes
cell fs k = get_or fs k []

abbrev pub held_from : List Bytes → Held
held_from fs = record {
  peer = cell fs 0;
  link = num (cell fs 1);
  epoch = num (cell fs 2);
  current = pair_of (cell fs 9);
  heard = flag_of (cell fs 4);
  installed = num (cell fs 3);
  last = option_num (cell fs 5) (cell fs 6);
  setup = option_bytes (cell fs 7) (cell fs 8);
}

abbrev pub held_of : Bytes → Held
held_of c = held_from (cuts 0 0 held_ws c)

-- the canonical form: flags 0 or 1, zeros for what is absent, a pair with zeros past its length
pub record FitCells (fs : List Bytes) : Type 0 where
  pub heard : Code 2 (cell fs 4)
  pub last : Optional 8 (cell fs 5) (cell fs 6)
  pub setup : Optional 32 (cell fs 7) (cell fs 8)
  pub current : PairCell (cell fs 9)

abbrev pub FitHeldCell : Bytes → Type 0
FitHeldCell c = FitCells (cuts 0 0 held_ws c)

-- ---- the region
abbrev pub view_held : Bytes → List Held
view_held s = entries held_of held_width held_cap s

-- a clause of each function that is lent the region: a struct that lends it would ask of each caller that the reference within keeps its name
abbrev pub FitHeld : Bytes → Type 0
FitHeld s = Store FitHeldCell held_width held_cap s

abbrev pub held_count : Bytes → ℕ
held_count s = get_or s at_held_count 0

abbrev pub no_held : Held
no_held = held_of (replicate held_width 0)

-- the i-th held peer
abbrev pub nth_held : Bytes → ℕ → Held
nth_held s i = get_or (view_held s) i no_held

-- an entry of zeros
pub fit_zeros : FitHeldCell (replicate held_width 0)
fit_zeros = record {
  heard = record { size = refl; low = lit< tt };
  last = record { flag = record { size = refl; low = lit< tt }; size = refl; blank = λ e. refl };
  setup = record { flag = record { size = refl; low = lit< tt }; size = refl; blank = λ e. refl };
  current = pair_zeros;
}

-- ---- a held peer by value
abbrev pub view_rec : held.Held → Held
view_rec h = record {
  peer = h.peer.0;
  link = h.link.0;
  epoch = h.epoch;
  current = view_pair h.current;
  heard = h.heard;
  installed = h.installed;
  last = h.last;
  setup = option_map (λ d. d.0) h.setup;
}
