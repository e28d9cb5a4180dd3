-- How many held peers there are; and a place found by a peer's address lies within.
use Rattle.std.specs.Prelude.{◌≡◌, ℕ, ◌<◌, length, Some}
use Rattle.std.proofs.Common.{arith}
use Rattle.rules.specs.Base.{Bytes}
use Rattle.rules.specs.Settle.{named}
use Rattle.lib_laws.specs.Scan.{scan, scan_within, length_shows}
use Rattle.lib_laws.specs.Chunk.{chunks}
use Rattle.held.specs.Layout.{held_cap, held_width}
use Rattle.held.specs.View.{held_of, view_held, FitHeld, held_count}

pub count_is : {s : Bytes} → FitHeld s → length (view_held s) ≡ held_count s
count_is {s} f = length_shows held_of (held_count s) (chunks held_width held_cap s) (omega arith)

-- a place found by a peer's address
pub found_within : (p : Bytes) {s : Bytes} {i : ℕ} → FitHeld s → scan (named p) 0 (view_held s) ≡ Some i → i < held_count s
found_within p {s} {i} f e = scan_within (named p) held_of (held_count s) (chunks held_width held_cap s) i (omega arith) e
