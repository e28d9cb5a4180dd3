-- Zeroed memory has no memories; and regions that fit and show the same are the same bytes.
use Rattle.std.specs.Prelude.{◌≡◌, refl, Bool, true, false, [], ◌∷◌, map, ℕ, length, take, drop, replicate, if◌then◌else◌, None, Some}
use Rattle.std.proofs.Common.{sym, ◌∙◌, arith, lit≤}
use Rattle.std.proofs.Math.Path.{ap}
use Rattle.std.proofs.lemmas.List.{get_or-replicate}
use Rattle.rules.specs.Base.{Bytes, All}
use Rattle.rules.specs.Bounds.{IsByte}
use Rattle.rules.specs.Data.{Replay, Silence, Memory}
use Rattle.lib_laws.specs.Cell.{flag_of, flag_same, option_num_same}
use Rattle.lib_laws.specs.Chunk.{chunks}
use Rattle.lib_laws.specs.Fields.{sum}
use Rattle.lib_laws.specs.Store.{Store, entries, store_zeros, same_view}
use Rattle.lib_laws.specs.Same.{cell_size, cell_bytes, num_cells, cells_same, with_bytes}
use Rattle.gates_entry.specs.Rows.{AnyBytes}
use Rattle.gates_entry.specs.View.{replay_of, digest_of, silence_of, FitSilenceCell, entry_of, FitEntry, view_gates, FitGates, fit_zeros}
use Rattle.node_addr.specs.Layout.{digest_len}
use Rattle.gates_entry.specs.Layout.{at_memory_count, digest_cap, gates_len, memory_cap, memory_width, replay_cap, replay_width, replays_len, silence_len, entry_ws, silence_ws, at_silence, at_silence_last, at_seen, at_has_silence, at_silence_epoch, at_replays, at_until, at_count, at_stamp}

-- ---- new memory
pub fit_new : FitGates (replicate gates_len 0)
fit_new = store_zeros FitEntry memory_width memory_cap fit_zeros

pub shows_none : view_gates (replicate gates_len 0) ≡ []
shows_none = ap (λ (n : ℕ). map entry_of (take n (chunks memory_width memory_cap (replicate gates_len 0)))) (get_or-replicate gates_len at_memory_count 0 0 (lit≤ tt))

-- ---- equal contents are equal bytes
-- replays, and counted digests
replay_same : (c d : Bytes) → length c ≡ replay_width → length d ≡ replay_width → All IsByte c → All IsByte d → replay_of c ≡ replay_of d → c ≡ d
unfolding sum
replay_same c d h k a b e =
    let x : take digest_len c ≡ take digest_len d = ap (λ (r : Replay). r.ephemeral) e in
    let y : take 8 (drop at_seen c) ≡ take 8 (drop at_seen d) = num_cells 8 at_seen c d (omega arith) (omega arith) a b (ap (λ (r : Replay). r.seen) e) in
    cells_same 0 (digest_len ∷ 8 ∷ []) c d h k (rw (x, y))

replays_same : {s u : Bytes} → Store AnyBytes replay_width replay_cap s → Store AnyBytes replay_width replay_cap u → All IsByte s → All IsByte u → entries replay_of replay_width replay_cap s ≡ entries replay_of replay_width replay_cap u → s ≡ u
replays_same f g a b e = same_view replay_of (with_bytes f a) (with_bytes g b) (λ c d p q. replay_same c d p.1 q.1 p.0.1 q.0.1) e

digests_same : {s u : Bytes} → Store AnyBytes digest_len digest_cap s → Store AnyBytes digest_len digest_cap u → entries digest_of digest_len digest_cap s ≡ entries digest_of digest_len digest_cap u → s ≡ u
digests_same f g e = same_view digest_of f g (λ c d p q z. z) e

-- a silence
module _ (c d : Bytes) (f : FitSilenceCell c) (g : FitSilenceCell d) (h : length c ≡ silence_len) (k : length d ≡ silence_len) (a : All IsByte c) (b : All IsByte d) where
  silence_same : silence_of c ≡ silence_of d → c ≡ d
  unfolding silence_of sum
  silence_same e =
      let x = option_num_same f.cells.epoch g.cells.epoch (cell_bytes 8 at_silence_epoch c a) (cell_bytes 8 at_silence_epoch d b) (ap (λ (s : Silence). s.epoch) e) in
      let y = option_num_same f.cells.until g.cells.until (cell_bytes 8 at_until c a) (cell_bytes 8 at_until d b) (ap (λ (s : Silence). s.until) e) in
      cells_same 0 silence_ws c d h k
      (rw (
        x.0,
        x.1,
        num_cells 4 at_count c d (omega arith) (omega arith) a b (ap (λ (s : Silence). s.count) e),
        num_cells 8 at_silence_last c d (omega arith) (omega arith) a b (ap (λ (s : Silence). s.last) e),
        y.0,
        y.1,
        digests_same f.cells.counted g.cells.counted (ap (λ (s : Silence). s.counted) e),
      ))

-- an entry
module _ (c d : Bytes) (f : FitEntry c) (g : FitEntry d) (h : length c ≡ memory_width) (k : length d ≡ memory_width) (a : All IsByte c) (b : All IsByte d) where
  silences_same : (entry_of c).silence ≡ (entry_of d).silence → (take 1 (drop at_has_silence c) ≡ take 1 (drop at_has_silence d)) × (take silence_len (drop at_silence c) ≡ take silence_len (drop at_silence d))
  silences_same e = go (flag_of (take 1 (drop at_has_silence c))) (flag_of (take 1 (drop at_has_silence d))) refl refl e
    where
      go : (x y : Bool) → flag_of (take 1 (drop at_has_silence c)) ≡ x → flag_of (take 1 (drop at_has_silence d)) ≡ y
          → (if x then Some (silence_of (take silence_len (drop at_silence c))) else None) ≡ (if y then Some (silence_of (take silence_len (drop at_silence d))) else None)
          → (take 1 (drop at_has_silence c) ≡ take 1 (drop at_has_silence d)) × (take silence_len (drop at_silence c) ≡ take silence_len (drop at_silence d))
      go true true p q z =
          let w : silence_of (take silence_len (drop at_silence c)) ≡ silence_of (take silence_len (drop at_silence d)) = cc in (
            flag_same f.has_silence g.has_silence (p ∙ sym q),
            silence_same (take silence_len (drop at_silence c)) (take silence_len (drop at_silence d)) f.silence g.silence (cell_size silence_len at_silence c (omega arith)) (cell_size silence_len at_silence d (omega arith)) (cell_bytes silence_len at_silence c a) (cell_bytes silence_len at_silence d b) w,
          )
      go true false p q z = let n : ◌≡◌ {A = ℕ} 0 1 = cc in absurd (omega arith)
      go false true p q z = let n : ◌≡◌ {A = ℕ} 0 1 = cc in absurd (omega arith)
      go false false p q z = (flag_same f.has_silence g.has_silence (p ∙ sym q), f.quiet p ∙ sym (g.quiet q))

  entry_same : entry_of c ≡ entry_of d → c ≡ d
  unfolding sum
  entry_same e =
      let x = option_num_same f.stamp g.stamp (cell_bytes 8 at_stamp c a) (cell_bytes 8 at_stamp d b) (ap (λ (m : Memory). m.stamp) e) in
      let y = silences_same (ap (λ (m : Memory). m.silence) e) in
      cells_same 0 entry_ws c d h k
      (rw (
        ap (λ (m : Memory). m.peer) e,
        x.0,
        x.1,
        y.0,
        y.1,
        replays_same f.replays g.replays (cell_bytes replays_len at_replays c a) (cell_bytes replays_len at_replays d b) (ap (λ (m : Memory). m.replays) e),
      ))

pub same_gates : {s u : Bytes} → FitGates s → FitGates u → All IsByte s → All IsByte u → view_gates s ≡ view_gates u → s ≡ u
same_gates f g a b e = same_view entry_of (with_bytes f a) (with_bytes g b) (λ c d p q. entry_same c d p.0.0 q.0.0 p.1 q.1 p.0.1 q.0.1) e
