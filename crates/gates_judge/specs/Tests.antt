-- The cells of the i-th memory that decide, in the rules that judge; and the judgement by a blank memory.
use Rattle.std.specs.Prelude.{◌≡◌, refl, Bool, true, false, not, ◌&&◌, ℕ, ◌+◌, ◌*◌, ◌<◌, eqb, leb, ltb, unwrap_or, take, drop, if◌then◌else◌, None, Option, Some}
use Rattle.std.proofs.Common.{sym, ◌∙◌}
use Rattle.std.proofs.Math.Path.{ap}
use Rattle.std.proofs.Math.Nat.{add-zero}
use borrow.Author.Tests.{eq-eqb}
use Rattle.rules.specs.Base.{option, or_else, Bytes}
use Rattle.rules.specs.Time.{Params}
use Rattle.rules.specs.Data.{Silence, Held, Source, Refusal, Dampened, ReplayFull}
use Rattle.rules.specs.Gates.{blank, differ, recent, silencing, replayed, young, dampened, judge, gated, judged}
use Rattle.lib_laws.specs.Cell.{flag_of, option_num}
use Rattle.gates_entry.specs.View.{silence_from, silence_of, FitGates, gate_count, memory_at}
use Rattle.gates_entry.specs.Entry.{memory_here, silence_cuts}
use Rattle.gates_entry.specs.Layout.{at_has_silence, at_has_stamp, at_has_until, at_silence, at_silence_epoch, at_stamp, at_until, memory_width, silence_len}

-- ---- silences
-- refusing until u, at the epoch e where it is known
abbrev pub refuses : ℕ → ℕ → Option ℕ → Option ℕ → Bool
refuses e now u epoch = option u false (λ x. ltb now x) && eqb (unwrap_or epoch e) e

refuses_if : (e now : ℕ) (b : Bool) (x : Silence) → option (if b then Some x else None) false (λ s. option s.until false (λ u. ltb now u) && not (differ s.epoch (Some e))) ≡ b && refuses e now x.until x.epoch
refuses_if e now false x = refl
refuses_if e now true x = ap (λ (b : Bool). option x.until false (λ u. ltb now u) && b) (go x.epoch)
  where
    back : (b : Bool) → not (not b) ≡ b
    back true = refl
    back false = refl

    go : (o : Option ℕ) → not (differ o (Some e)) ≡ eqb (unwrap_or o e) e
    go None = sym (eq-eqb e e refl)
    go (Some a) = back (eqb a e)

module _ (s : Bytes) (i : ℕ) (f : FitGates s) (h : i < gate_count s) where
  pub silencing_is : (e now : ℕ) → silencing (Some e) now (memory_at s i)
      ≡ flag_of (take 1 (drop (i * memory_width + at_has_silence) s)) && refuses e now (option_num (take 1 (drop (i * memory_width + at_silence + at_has_until) s)) (take 8 (drop (i * memory_width + at_silence + at_until) s))) (option_num (take 1 (drop (i * memory_width + at_silence) s)) (take 8 (drop (i * memory_width + at_silence + at_silence_epoch) s)))
  unfolding silencing silence_of
  silencing_is e now =
      let z : i * memory_width + at_silence + 0 ≡ i * memory_width + at_silence = add-zero (i * memory_width + at_silence) in
      ap (silencing (Some e) now) (sym (memory_here s i f h))
      ∙ refuses_if e now (flag_of (take 1 (drop (i * memory_width + at_has_silence) s))) (silence_of (take silence_len (drop (i * memory_width + at_silence) s)))
      ∙ ap (λ (x : Silence). flag_of (take 1 (drop (i * memory_width + at_has_silence) s)) && refuses e now x.until x.epoch) (ap silence_from (silence_cuts s (i * memory_width + at_silence)))
      ∙ rw z

  -- ---- the stamp
  pub dampened_is : (c : Params) (now : ℕ) → dampened c now (memory_at s i)
      ≡ (if option (option_num (take 1 (drop (i * memory_width + at_has_stamp) s)) (take 8 (drop (i * memory_width + at_stamp) s))) false (λ x. recent c now x) then Some Dampened else None)
  unfolding dampened
  dampened_is c now = ap (dampened c now) (sym (memory_here s i f h))

-- ---- a blank memory: no replay, no stamp
pub blank_judged : (c : Params) (now : ℕ) (x : Source) (o : Option Held) (d p : Bytes)
    → judged c now x o d (blank p)
    ≡ option o None (λ h. if gated x then or_else (if h.heard then None else (if leb c.replays 0 then Some ReplayFull else None)) (young c now h) else None)
unfolding judged judge replayed dampened
blank_judged c now x o d p = go o
  where
    last : (r : Option Refusal) → or_else r None ≡ r
    last None = refl
    last (Some r) = refl

    go : (o : Option Held)
        → option o None (λ h. if gated x then or_else (if h.heard then None else (if leb c.replays 0 then Some ReplayFull else None)) (or_else (young c now h) None) else None)
        ≡ option o None (λ h. if gated x then or_else (if h.heard then None else (if leb c.replays 0 then Some ReplayFull else None)) (young c now h) else None)
    go None = refl
    go (Some h) = rw (last (young c now h))
