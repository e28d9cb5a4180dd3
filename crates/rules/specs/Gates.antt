-- The gates: what is remembered of a peer, the judgement of a msg1, and what changes a memory (gates.rs).
use Rattle.std.specs.Prelude.{Bool, true, false, not, ◌&&◌, ◌||◌, ℕ, ◌-◌, eqb, leb, ltb, length, if◌then◌else◌, None, Option, Some}
use mathlib.Core.List.{List, [], ◌∷◌, ◌++◌, tail}
use Rattle.rules.specs.Base.{option, is, or_else, Bytes, same, empty, find, without, any, keep}
use Rattle.rules.specs.Std.{from_nanos, saturating_add, before, insert}
use Rattle.rules.specs.Time.{Params, deadline, backoff, younger}
use Rattle.rules.specs.Data.{Memory, Replay, Silence, Held, Source, Refusal, Unheard, Dampened, Replayed, ReplayFull}

-- ---- memories

abbrev pub blank : Bytes → Memory
blank p = record { peer = p; stamp = None; replays = []; silence = None }

-- a stamp, a replay or a silence
abbrev pub remembers : Memory → Bool
remembers m = is m.stamp || not (empty m.replays) || is m.silence

abbrev pub memory_of : Bytes → Memory → Bool
memory_of p m = same p m.peer

abbrev pub earlier_memory : Memory → Memory → Bool
earlier_memory m k = before m.peer k.peer

unfoldable pub memory : Bytes → List Memory → Memory
memory p g = option (find (memory_of p) g) (blank p) λ m. m

-- the memory in its peer's place; one that remembers nothing equals no memory
unfoldable pub store : Memory → List Memory → List Memory
store m g =
    let rest : List Memory = without (memory_of m.peer) g in
    if remembers m then insert earlier_memory m rest else rest

abbrev pub recent : Params → ℕ → ℕ → Bool
recent c now was = younger c.interval now was

-- both there, and unequal
abbrev pub differ : Option ℕ → Option ℕ → Bool
differ None b = false
differ (Some a) None = false
differ (Some a) (Some b) = not (eqb a b)

-- ---- the judgement

-- Silent while until > now and epochs don't differ
unfoldable pub silencing : Option ℕ → ℕ → Memory → Bool
silencing epoch now m = option m.silence false λ s.
    option s.until false (λ u. ltb now u) && not (differ s.epoch epoch)

abbrev pub seen_in : Bytes → List Replay → Bool
seen_in e s = any (λ r. same e r.ephemeral) s

abbrev pub recent_replays : Params → ℕ → List Replay → List Replay
recent_replays c now s = keep (λ r. recent c now r.seen) s

-- Replayed, then ReplayFull at the limit, over replays younger than interval
unfoldable pub replayed : Params → ℕ → Bytes → Memory → Option Refusal
replayed c now e m =
    let live : List Replay = recent_replays c now m.replays in
    if seen_in e live then Some Replayed
    else (if leb c.replays (length live) then Some ReplayFull else None)

-- Unheard if now - installed < unheard, or Heard if now - (last, else installed) < interval
unfoldable pub young : Params → ℕ → Held → Option Refusal
young c now h =
    if h.heard then (if recent c now (option h.last h.installed (λ l. l)) then Some Refusal.Heard else None)
    else (if younger c.unheard now h.installed then Some Unheard else None)

-- Dampened if the stamp is younger than interval
unfoldable pub dampened : Params → ℕ → Memory → Option Refusal
dampened c now m = if option m.stamp false (λ s. recent c now s) then Some Dampened else None

unfoldable pub judge : Params → ℕ → Option Bytes → Held → Memory → Option Refusal
judge c now e h m =
    or_else (if h.heard then None else option e None (λ d. replayed c now d m))
    (or_else (young c now h) (dampened c now m))

abbrev pub asks_silence : Source → Bool
asks_silence Source.NotHeld = true
asks_silence Source.Restart = false
asks_silence Source.Replacement = true
asks_silence Source.OwnMsg2 = false
asks_silence Source.RekeyMsg2 = false

-- the silences refuse what asks
abbrev pub silenced_for : ℕ → Source → Option ℕ → Memory → Bool
silenced_for now s epoch m = asks_silence s && silencing epoch now m

-- OwnMsg2 and RekeyMsg2 always pass, and so does a peer not held that is not silenced
abbrev pub gated : Source → Bool
gated Source.NotHeld = false
gated Source.Restart = true
gated Source.Replacement = true
gated Source.OwnMsg2 = false
gated Source.RekeyMsg2 = false

-- the other judgements, of the holder that would go
unfoldable pub judged : Params → ℕ → Source → Option Held → Bytes → Memory → Option Refusal
judged c now s o e m = option o None λ h. if gated s then judge c now (Some e) h m else None

-- ---- what changes a memory

-- passing over a heard holder sets the stamp
abbrev pub stamped : ℕ → Memory → Memory
stamped now m = record { peer = m.peer; stamp = Some now; replays = m.replays; silence = m.silence }

-- heard clears replays and silence, never the stamp
unfoldable pub clear : Memory → Memory
clear m = record { peer = m.peer; stamp = m.stamp; replays = []; silence = None }

-- the replays no longer younger than interval are dropped
unfoldable pub prune : Params → ℕ → Memory → Memory
prune c now m = record { peer = m.peer; stamp = m.stamp; replays = recent_replays c now m.replays; silence = m.silence }

-- past the limit the oldest goes
abbrev pub limited : {A : Type 0} → ℕ → List A → List A
limited n s = if ltb n (length s) then tail s else s

-- the digest is added unless it is there
abbrev pub noted : ℕ → Bytes → List Replay → List Replay
noted now e s = if seen_in e s then s else s ++ (record { ephemeral = e; seen = now } ∷ [])

unfoldable pub promoted : Params → ℕ → Bytes → Memory → Memory
promoted c now e m =
    let live : List Replay = (prune c now m).replays in
    record { peer = m.peer; stamp = m.stamp; replays = limited c.replays (noted now e live); silence = m.silence }

-- horizon past until, else past the last count
unfoldable pub expired : Params → ℕ → Silence → Bool
expired c now s = leb (deadline (option s.until s.last (λ u. u)) (from_nanos c.horizon)) now

-- the record that an ending is counted in: the one there, or anew
unfoldable pub counting : Params → ℕ → Option ℕ → Option Silence → Silence
counting c now epoch s =
    let new : Silence = record { epoch = epoch; count = 0; last = now; until = None; counted = [] } in
    option s new λ r. if expired c now r || differ r.epoch epoch then new
    else record { epoch = or_else r.epoch epoch; count = r.count; last = r.last; until = r.until; counted = r.counted }

-- at the limit the oldest counted digest gives way
unfoldable pub counted_with : Params → Option Bytes → List Bytes → List Bytes
counted_with c setup s = option setup s λ e. (if eqb (length s) c.counted then tail s else s) ++ (e ∷ [])

-- from count `silent` on, until is now plus backoff with exponent count - silent
unfoldable pub silenced : Params → ℕ → Option Bytes → Silence → Silence
silenced c now setup r =
    let n : ℕ = saturating_add r.count 1 in
    record {
      epoch = r.epoch;
      count = n;
      last = now;
      until = if ltb n c.silent then r.until
          else Some (deadline now (backoff (n - c.silent) (from_nanos c.silentbase) (from_nanos c.silentcap)));
      counted = counted_with c setup r.counted;
    }

-- an unheard session ended: one silence, unless its digest is already counted
unfoldable pub ended : Params → ℕ → Option ℕ → Option Bytes → Memory → Memory
ended c now epoch setup m =
    let r : Silence = counting c now epoch m.silence in
    let seen : Bool = option setup false λ e. any (same e) r.counted in
    record { peer = m.peer; stamp = m.stamp; replays = m.replays; silence = Some (if seen then r else silenced c now setup r) }
