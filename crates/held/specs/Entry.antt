-- The bytes of a held peer: what is written, and one that was read at a place is the one that the region shows there.
use Rattle.std.specs.Prelude.{◌≡◌, List, [], ◌∷◌, ◌++◌, ℕ, ◌*◌, ◌<◌, get_or, replicate, Option, option_map}
use Rattle.std.proofs.Common.{sym, ap, ◌∙◌, subst, append_assoc, append-nil, arith, lit≤}
use Rattle.rules.specs.Base.{one, Bytes}
use Rattle.rules.specs.Field.{digits}
use Rattle.lib_laws.specs.Shift.{fit_at, shown}
use Rattle.lib_laws.specs.Splice.{Wrote}
use Rattle.lib_laws.specs.Cell.{or_blank, flag_cell, number_cells, bytes_cells}
use Rattle.lib_laws.specs.Chunk.{chunks, joined}
use Rattle.lib_laws.specs.Fields.{cuts, cuts_at, sum}
use Rattle.node_addr.specs.Place.{pair_cell}
use Rattle.held.specs.Layout.{held_ws, held_cap, held_width}
use Rattle.held.specs.declared.record.Held as held
use Rattle.held.specs.View.{held_from, held_of, FitCells, FitHeld, held_count, no_held, nth_held}

-- ---- what is written
abbrev setup : held.Held → Option Bytes
setup h = option_map (λ d. d.0) h.setup

abbrev pub held_fields : held.Held → List Bytes
held_fields h = h.peer.0 ∷ digits 8 h.link.0 ∷ digits 8 h.epoch ∷ digits 8 h.installed ∷ (one h.heard ∷ [])
    ∷ flag_cell h.last ∷ digits 8 (or_blank 0 h.last) ∷ flag_cell (setup h) ∷ or_blank (replicate 32 0) (setup h) ∷ pair_cell h.current ∷ []

unfoldable pub held_bytes : held.Held → Bytes
held_bytes h = joined (held_fields h)

-- as the writer puts it
abbrev put_bytes : held.Held → Bytes
put_bytes h = h.peer.0 ++ digits 8 h.link.0 ++ digits 8 h.epoch ++ digits 8 h.installed ++ (one h.heard ∷ []) ++ number_cells h.last ++ bytes_cells 32 (setup h) ++ pair_cell h.current

bytes_are : (h : held.Held) → put_bytes h ≡ held_bytes h
unfolding held_bytes joined
bytes_are h = simp (append_assoc, append-nil)

pub put_held_is : (h : held.Held) {xs : Bytes} {at : ℕ} {ys : Bytes} {r : ℕ} → Wrote xs at held_width (put_bytes h) ys r → Wrote xs at held_width (held_bytes h) ys r
put_held_is h {xs} {at} {ys} {r} w = subst (λ (b : Bytes). Wrote xs at held_width b ys r) (bytes_are h) w

-- ---- the cells of the i-th held peer, where they stand
pub cells_here : (s : Bytes) (i : ℕ) → FitHeld s → i < held_count s → cuts (i * held_width) 0 held_ws s ≡ cuts 0 0 held_ws (get_or (chunks held_width held_cap s) i [])
unfolding sum
cells_here s i f h = cuts_at held_width held_cap s i [] 0 held_ws (omega arith) (lit≤ tt) (omega arith)

pub fit_here : (s : Bytes) (i : ℕ) → FitHeld s → i < held_count s → FitCells (cuts (i * held_width) 0 held_ws s)
fit_here s i f h = subst FitCells (sym (cells_here s i f h)) (fit_at held_of i [] f.kept h)

pub held_here : (s : Bytes) (i : ℕ) → FitHeld s → i < held_count s → held_from (cuts (i * held_width) 0 held_ws s) ≡ nth_held s i
held_here s i f h = ap held_from (cells_here s i f h) ∙ shown held_of i [] no_held f.kept h
