-- Zeroed memory holds no peer; and regions that fit and show the same are the same bytes.
use Rattle.std.specs.Prelude.{◌≡◌, [], ℕ, length, replicate}
use Rattle.std.proofs.Common.{ap, arith, lit<}
use Rattle.std.proofs.lemmas.List.{get_or-replicate}
use Rattle.rules.specs.Base.{Bytes, All}
use Rattle.rules.specs.Bounds.{IsByte}
use Rattle.rules.specs.Data.{Held}
use Rattle.lib_laws.specs.Cell.{flag_same, option_num_same, option_bytes_same}
use Rattle.lib_laws.specs.Fields.{sum}
use Rattle.lib_laws.specs.Store.{store_zeros, same_view}
use Rattle.lib_laws.specs.Same.{cell_bytes, num_cells, cells_same, with_bytes}
use Rattle.node_addr.proofs.Cells.{pair_cell_same}
use Rattle.node_addr.specs.Layout.{pair_width}
use Rattle.held.specs.Layout.{at_current, held_ws, at_held_count, held_cap, held_len, held_width, at_held_epoch, at_installed, at_held_link, at_last}
use Rattle.held.specs.View.{held_of, FitHeldCell, view_held, FitHeld, held_count, fit_zeros}

-- ---- new memory
pub fit_new : FitHeld (replicate held_len 0)
fit_new = store_zeros FitHeldCell held_width held_cap fit_zeros

no_entries : (s : Bytes) → held_count s ≡ 0 → view_held s ≡ []
no_entries s e = rw e

pub shows_none : view_held (replicate held_len 0) ≡ []
shows_none = no_entries (replicate held_len 0) (get_or-replicate {A = ℕ} held_len at_held_count 0 0 (lit< tt))

-- ---- equal contents are equal bytes
entry_same : (c d : Bytes) → (FitHeldCell c × All IsByte c) × (length c ≡ held_width) → (FitHeldCell d × All IsByte d) × (length d ≡ held_width) → held_of c ≡ held_of d → c ≡ d
unfolding sum
entry_same c d ((f, a), y) ((g, b), z) e =
    let link = num_cells 8 at_held_link c d (omega arith) (omega arith) a b (ap (λ (h : Held). h.link) e) in
    let epoch = num_cells 8 at_held_epoch c d (omega arith) (omega arith) a b (ap (λ (h : Held). h.epoch) e) in
    let installed = num_cells 8 at_installed c d (omega arith) (omega arith) a b (ap (λ (h : Held). h.installed) e) in
    let heard = flag_same f.heard g.heard (ap (λ (h : Held). h.heard) e) in
    let last = option_num_same f.last g.last (cell_bytes 8 at_last c a) (cell_bytes 8 at_last d b) (ap (λ (h : Held). h.last) e) in
    let setup = option_bytes_same f.setup g.setup (ap (λ (h : Held). h.setup) e) in
    let current = pair_cell_same f.current g.current (cell_bytes pair_width at_current c a) (cell_bytes pair_width at_current d b) (ap (λ (h : Held). h.current) e) in
    cells_same 0 held_ws c d y z (rw (ap (λ (h : Held). h.peer) e, link, epoch, installed, heard, last.0, last.1, setup.0, setup.1, current))

pub held_same : {s u : Bytes} → FitHeld s → FitHeld u → All IsByte s → All IsByte u → view_held s ≡ view_held u → s ≡ u
held_same f g a b e = same_view held_of (with_bytes f a) (with_bytes g b) entry_same e
