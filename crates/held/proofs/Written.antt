-- What was written of a held peer is read: its cells are canonical, and show the peer.
use Rattle.std.specs.Prelude.{◌≡◌, List, map, ℕ, length, replicate, None, Option, Some, option_map}
use Rattle.std.proofs.Common.{sym, ap, ◌∙◌, subst, Fits}
use Rattle.std.specs.Int.{w32, w64}
use Rattle.rules.specs.Base.{Bytes}
use Rattle.lib_laws.specs.Splice.{length_digits}
use Rattle.lib_laws.specs.Round.{more_digits}
use Rattle.lib_laws.specs.Cell.{Optional, or_blank, flag_cell, flag_shows, flag_code, optional_number, optional_bytes, number_shows, bytes_show}
use Rattle.lib_laws.specs.Chunk.{joined}
use Rattle.lib_laws.specs.Fields.{cuts, cuts_joined}
use Rattle.node_addr.proofs.Cells.{pair_cell_length, pair_cell_fit, pair_cell_shows}
use Rattle.held.specs.Layout.{held_ws}
use Rattle.held.specs.declared.record.Held as held
use Rattle.held.specs.View.{held_from, held_of, FitCells, FitHeldCell, view_rec}
use Rattle.held.specs.Entry.{held_fields, held_bytes}

-- each array is one of its type
pub record FitRec (h : held.Held) : Type 0 where
  pub peer : length h.peer.0 ≡ 16
  pub setup : length (or_blank (replicate 32 0) (option_map (λ d. d.0) h.setup)) ≡ 32

-- each number is one of its type
pub record Wide (h : held.Held) : Type 0 where
  pub link : Fits w64 h.link.0
  pub epoch : Fits w64 h.epoch
  pub installed : Fits w64 h.installed
  pub last : Fits w64 (or_blank 0 h.last)
  pub transport : Fits w32 h.current.transport.0

-- ---- what was written is read
widths : (h : held.Held) → FitRec h → map length (held_fields h) ≡ held_ws
widths h f = rw (
  f.peer,
  length_digits 8 h.link.0,
  length_digits 8 h.epoch,
  length_digits 8 h.installed,
  length_digits 8 (or_blank 0 h.last),
  f.setup,
  pair_cell_length h.current,
)

cuts_bytes : (h : held.Held) → FitRec h → cuts 0 0 held_ws (joined (held_fields h)) ≡ held_fields h
cuts_bytes h f = ap (λ (ws : List ℕ). cuts 0 0 ws (joined (held_fields h))) (sym (widths h f)) ∙ cuts_joined (held_fields h)

setup_fits : (n : ℕ) (o : Option Bytes) → length (or_blank (replicate n 0) o) ≡ n → Optional n (flag_cell o) (or_blank (replicate n 0) o)
setup_fits n None e = optional_bytes n None tt
setup_fits n (Some s) e = optional_bytes n (Some s) e

fit_fields : (h : held.Held) → FitRec h → FitCells (held_fields h)
fit_fields h f = record {
  heard = flag_code h.heard;
  last = optional_number h.last;
  setup = setup_fits 32 (option_map (λ d. d.0) h.setup) f.setup;
  current = pair_cell_fit h.current;
}

pub fit_bytes : (h : held.Held) → FitRec h → FitHeldCell (held_bytes h)
unfolding held_bytes
fit_bytes h f = subst FitCells (sym (cuts_bytes h f)) (fit_fields h f)

pub held_bytes_lem : (h : held.Held) → FitRec h → Wide h → held_of (held_bytes h) ≡ view_rec h
unfolding held_bytes
held_bytes_lem h f w =
    ap held_from (cuts_bytes h f)
    ∙ rw (
      more_digits 8 h.link.0 w.link.fits,
      more_digits 8 h.epoch w.epoch.fits,
      more_digits 8 h.installed w.installed.fits,
      flag_shows h.heard,
      number_shows h.last w.last.fits,
      bytes_show 32 (option_map (λ d. d.0) h.setup),
      pair_cell_shows h.current w.transport,
    )
