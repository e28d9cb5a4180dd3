-- The bytes that tell whether a memory has a stamp and nothing else.
use Rattle.std.specs.Prelude.{◌≡◌, refl, Bool, true, false, not, ◌&&◌, List, [], ◌∷◌, map, ℕ, zero, suc, ◌+◌, ◌*◌, ◌<◌, eqb, length, take, drop, get_or, if◌then◌else◌, None, Some, is_some}
use Rattle.std.proofs.Common.{sym, ap, ◌∙◌, arith, ne_eqb}
use Rattle.rules.specs.Base.{Bytes, is, empty}
use Rattle.rules.specs.Data.{Silence}
use Rattle.lib_laws.specs.Cell.{flag_of, option_num, is_some_is}
use Rattle.lib_laws.specs.Chunk.{chunks, length_chunks}
use Rattle.gates_entry.specs.View.{replay_of, silence_of, FitGates, gate_count, memory_at}
use Rattle.gates_entry.specs.Entry.{memory_here, row_count}
use Rattle.gates_entry.specs.Layout.{at_has_silence, at_has_stamp, at_replay_count, at_replays, at_silence, at_stamp, memory_width, replay_cap, replay_width, replays_len, silence_len}
use Rattle.gates.specs.Order.{still}

shown_empty : {A B : Type 0} (f : A → B) (n : ℕ) (xs : List A) → 0 < length xs → empty (map f (take n xs)) ≡ eqb n 0
shown_empty f zero xs h = refl
shown_empty f (suc n) [] h = absurd (omega arith)
shown_empty f (suc n) (x ∷ xs) h = sym (ne_eqb (suc n) 0 (λ e. absurd (omega arith)))

is_if : (b : Bool) (x : Silence) → is (if b then Some x else None) ≡ b
is_if true x = refl
is_if false x = refl

pub still_is : (s : Bytes) (i : ℕ) → FitGates s → i < gate_count s → still (memory_at s i)
    ≡ is_some (option_num (take 1 (drop (i * memory_width + at_has_stamp) s)) (take 8 (drop (i * memory_width + at_stamp) s)))
    && eqb (get_or s (i * memory_width + at_replays + at_replay_count) 0) 0
    && not (flag_of (take 1 (drop (i * memory_width + at_has_silence) s)))
still_is s i f h =
    let l : length (chunks replay_width replay_cap (take replays_len (drop (i * memory_width + at_replays) s))) ≡ 8 = length_chunks replay_width replay_cap (take replays_len (drop (i * memory_width + at_replays) s)) in
    ap still (sym (memory_here s i f h))
    ∙ rw (
      is_some_is,
      shown_empty replay_of (get_or (take replays_len (drop (i * memory_width + at_replays) s)) at_replay_count 0) (chunks replay_width replay_cap (take replays_len (drop (i * memory_width + at_replays) s))) (omega arith),
      row_count at_replay_count s (i * memory_width + at_replays),
      is_if (flag_of (take 1 (drop (i * memory_width + at_has_silence) s))) (silence_of (take silence_len (drop (i * memory_width + at_silence) s))),
    )
