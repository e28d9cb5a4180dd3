-- The walk over the replays of the i-th memory, where they stand.
use Rattle.std.specs.Prelude.{◌≡◌, true, false, List, [], ◌∷◌, map, ℕ, suc, ◌+◌, ◌*◌, ◌≤◌, ◌<◌, leb, length, take, drop, get_or, if◌then◌else◌, None, Option, Some}
use Rattle.std.proofs.Common.{sym, ap, ◌∙◌, add-one, arith, le-leb, drop_of_length-le}
use Rattle.std.proofs.lemmas.Bool.{lt-leb}
use Rattle.rules.specs.Base.{Bytes, same}
use Rattle.rules.specs.Time.{Params, younger}
use Rattle.rules.specs.Data.{Replay, Refusal, Replayed, ReplayFull}
use Rattle.rules.specs.Gates.{seen_in, recent_replays, replayed}
use Rattle.lib_laws.specs.Scan.{length_shows, shows_cons}
use Rattle.lib_laws.specs.Cell.{num}
use Rattle.lib_laws.specs.Chunk.{chunks, length_chunks}
use Rattle.gates_types.specs.View.{view_replay}
use Rattle.gates_entry.specs.View.{replay_of, FitGates, gate_count, memory_at}
use Rattle.gates_entry.specs.Entry.{memory_there, memory_here, replay_here, row_count}
use Rattle.gates_entry.specs.Layout.{at_replay_count, at_replays, at_seen, memory_width, replay_cap, replay_width, replays_len}

-- what the replays that are left say, once k younger than the interval have been passed, none of them the digest's
abbrev left_of : Params → ℕ → Bytes → ℕ → List Replay → Option Refusal
left_of c now e k xs =
    if seen_in e (recent_replays c now xs) then Some Replayed else (if leb c.replays (k + length (recent_replays c now xs)) then Some ReplayFull else None)

-- the walk stands at j of the n replays at `at`
pub record Passing (o : Option Refusal) (c : Params) (now : ℕ) (e s : Bytes) (at n j k : ℕ) : Type 0 where
  pub within : j ≤ n
  pub small : n ≤ 8
  pub few : k ≤ j
  pub room : at + replays_len ≤ length s
  pub left : o ≡ left_of c now e k (drop j (map replay_of (take n (chunks replay_width replay_cap (take replays_len (drop at s))))))

pub passing_start : (c : Params) (now : ℕ) (e s : Bytes) (i n : ℕ) → FitGates s → i < gate_count s → n ≡ get_or s (i * memory_width + at_replays + at_replay_count) 0
    → Passing (replayed c now e (memory_at s i)) c now e s (i * memory_width + at_replays) n 0 0
unfolding replayed
passing_start c now e s i n f h q =
    let m : get_or (take replays_len (drop (i * memory_width + at_replays) s)) at_replay_count 0 ≡ n = row_count at_replay_count s (i * memory_width + at_replays) ∙ sym q in
    let r = (memory_there s i f h).replays in
    record {
      within = omega arith;
      small = omega arith;
      few = omega arith;
      room = omega arith;
      left = ap (replayed c now e) (sym (memory_here s i f h)) ∙ rw m (go (map replay_of (take n (chunks replay_width replay_cap (take replays_len (drop (i * memory_width + at_replays) s))))));
    }
  where
    go : (xs : List Replay)
        → (if seen_in e (recent_replays c now xs) then Some Replayed else (if leb c.replays (length (recent_replays c now xs)) then Some ReplayFull else None)) ≡ left_of c now e 0 xs
    go xs = let z : 0 + length (recent_replays c now xs) ≡ length (recent_replays c now xs) = omega arith in rw z

module _ {o : Option Refusal} {c : Params} {now : ℕ} {e s : Bytes} {at n j k : ℕ} (a : Passing o c now e s at n j k) where
  -- the one at j
  here : j < n → drop j (map replay_of (take n (chunks replay_width replay_cap (take replays_len (drop at s)))))
      ≡ record { ephemeral = take 32 (drop (at + j * replay_width) s); seen = num (take 8 (drop (at + j * replay_width + at_seen) s)) } ∷ drop (suc j) (map replay_of (take n (chunks replay_width replay_cap (take replays_len (drop at s)))))
  here h =
      let l = length_chunks replay_width replay_cap (take replays_len (drop at s)) in
      shows_cons replay_of n (chunks replay_width replay_cap (take replays_len (drop at s))) j [] (omega arith) h
      ∙ ap (λ (x : Replay). x ∷ drop (suc j) (map replay_of (take n (chunks replay_width replay_cap (take replays_len (drop at s)))))) (sym (ap view_replay (replay_here s at j (omega arith))))

  module _ (h : j < n) where
    pub passing_hit : younger c.interval now (num (take 8 (drop (at + j * replay_width + at_seen) s))) ≡ true → same e (take 32 (drop (at + j * replay_width) s)) ≡ true → Some Replayed ≡ o
    passing_hit y d = sym (a.left ∙ rw (here h, y, d))

    pub passing_live : younger c.interval now (num (take 8 (drop (at + j * replay_width + at_seen) s))) ≡ true → same e (take 32 (drop (at + j * replay_width) s)) ≡ false → Passing o c now e s at n (j + 1) (k + 1)
    passing_live y d = record {
      within = omega arith;
      small = a.small;
      few = omega arith;
      room = a.room;
      left = a.left ∙ rw (here h, y, d, add-one j) (go (recent_replays c now (drop (suc j) (map replay_of (take n (chunks replay_width replay_cap (take replays_len (drop at s))))))));
    }
      where
        go : (xs : List Replay) → (if seen_in e xs then Some Replayed else (if leb c.replays (k + suc (length xs)) then Some ReplayFull else None))
            ≡ (if seen_in e xs then Some Replayed else (if leb c.replays (k + 1 + length xs) then Some ReplayFull else None))
        go xs = let z : k + suc (length xs) ≡ k + 1 + length xs = omega arith in rw z

    pub passing_old : younger c.interval now (num (take 8 (drop (at + j * replay_width + at_seen) s))) ≡ false → Passing o c now e s at n (j + 1) k
    passing_old y = record { within = omega arith; small = a.small; few = omega arith; room = a.room; left = a.left ∙ rw (here h, y, add-one j) }

  module _ (h : n ≤ j) where
    passed : o ≡ (if leb c.replays k then Some ReplayFull else None)
    passed =
        let l = length_chunks replay_width replay_cap (take replays_len (drop at s)) in
        let z : k + 0 ≡ k = omega arith in
        a.left ∙ rw (drop_of_length-le (map replay_of (take n (chunks replay_width replay_cap (take replays_len (drop at s))))) {i = j} (rw (length_shows replay_of n (chunks replay_width replay_cap (take replays_len (drop at s))) (omega arith)) h), z)

    pub passing_full : c.replays ≤ k → Some ReplayFull ≡ o
    passing_full q = sym (passed ∙ rw (le-leb c.replays k q))

    pub passing_end : k < c.replays → None ≡ o
    passing_end q = sym (passed ∙ rw (lt-leb c.replays k q))
