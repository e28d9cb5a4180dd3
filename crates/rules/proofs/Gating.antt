-- What the gates keep of a peer stays within its widths and limits.
use Rattle.std.specs.Prelude.{if◌then◌else◌, None, Option, Some}
use mathlib.Core.Path.{◌≡◌, refl}
use mathlib.Core.Bool.{false, ◌||◌}
use mathlib.Core.List.{List, [], ◌∷◌, ◌++◌, tail}
use Prim.Native.Nat.{ℕ, ◌+◌, ◌-◌, ◌^◌, ◌≤◌, ◌<◌}
use native.Mathlib.Omega.{arith}
use borrow.Author.Tests.{ltb-false, eqb-false}
use lib.Dec.{eqb, ltb}
use lib.ListN.{length}
use Rattle.rules.specs.Base.{option, or_else, Bytes, same, find, without, any, All}
use Rattle.rules.specs.Std.{saturating_add}
use Rattle.rules.specs.Time.{Params}
use Rattle.rules.specs.Data.{Memory, Replay, Silence}
use Rattle.rules.specs.Gates.{memory_of, earlier_memory, remembers, memory, store, recent, recent_replays, seen_in, stamped, clear, prune, limited, noted, promoted, expired, differ, counting, counted_with, silenced, ended}
use Rattle.rules.specs.Bounds.{Word, Exactly, IfAny, ParamsFit, ReplayFits, SilenceFits, MemoryFits}
use Rattle.rules.proofs.Lists.{if_by, option_by, eqb_sound, all_append}
use Rattle.rules.proofs.Time.{deadline_word}
use Rattle.rules.proofs.Order.{all_find, all_without, all_kept, all_insert, length_keep, length_snoc, store_by}

-- a count stays a u32
pub counter_word : (n : ℕ) → saturating_add n 1 < 2 ^ 32
counter_word n = omega arith

-- ---- a memory, blank or not

pub record Sizes (c : Params) (m : Memory) : Type 0 where
  pub peer : Exactly 16 m.peer
  pub stamp : IfAny Word m.stamp
  pub limit : length m.replays ≤ c.replays
  pub replays : All ReplayFits m.replays
  pub silence : IfAny (SilenceFits c) m.silence

module _ (c : Params) where
  pub sizes_memory : (p : Bytes) (g : List Memory) → Exactly 16 p → All (MemoryFits c) g → Sizes c (memory p g)
  unfolding memory
  sizes_memory p g f k = option_by (Sizes c) (find (memory_of p) g) (λ e. record { peer = f; stamp = tt; limit = omega arith; replays = tt; silence = tt })
      (λ m e. let x = all_find (MemoryFits c) (memory_of p) g m e k in record { peer = x.peer; stamp = x.stamp; limit = x.limit; replays = x.replays; silence = x.silence })

  -- no blank memory is stored
  pub store_fits : (m : Memory) (g : List Memory) → Sizes c m → All (MemoryFits c) g → All (MemoryFits c) (store m g)
  store_fits m g x k =
      let rest = all_without (MemoryFits c) (memory_of m.peer) g k in
      store_by (All (MemoryFits c)) m g
      (λ e.
      let y : MemoryFits c m = record { peer = x.peer; stamp = x.stamp; limit = x.limit; replays = x.replays; silence = x.silence; remembers = e } in
      all_insert earlier_memory (MemoryFits c) m (without (memory_of m.peer) g) y rest)
      rest

  pub stamped_sizes : (now : ℕ) (m : Memory) → Word now → Sizes c m → Sizes c (stamped now m)
  stamped_sizes now m w x = record { peer = x.peer; stamp = w; limit = x.limit; replays = x.replays; silence = x.silence }

  pub clear_sizes : (m : Memory) → Sizes c m → Sizes c (clear m)
  unfolding clear
  clear_sizes m x = record { peer = x.peer; stamp = x.stamp; limit = omega arith; replays = tt; silence = tt }

-- ---- replays

length_tail : {A : Type 0} (s : List A) → length (tail s) ≡ length s - 1
length_tail [] = refl
length_tail (a ∷ s) = omega arith

all_tail : {A : Type 0} (P : A → Type 0) (s : List A) → All P s → All P (tail s)
all_tail P [] p = tt
all_tail P (a ∷ s) p = p.1

limited_length : {A : Type 0} (n : ℕ) (s : List A) → length s ≤ n + 1 → length (limited n s) ≤ n
limited_length {A} n s h = if_by (λ (u : List A). length u ≤ n) (ltb n (length s)) (λ e. omega (arith, length_tail s)) (λ e. ltb-false n (length s) e)

pub promoted_sizes : (c : Params) (now : ℕ) (e : Bytes) (m : Memory) → Word now → Exactly 32 e → Sizes c m → Sizes c (promoted c now e m)
unfolding promoted prune
promoted_sizes c now e m w f x =
    let live : List Replay = recent_replays c now m.replays in
    let r : Replay = record { ephemeral = e; seen = now } in
    let more : List Replay = noted now e live in
    let short : length live ≤ length m.replays = length_keep (λ r. recent c now r.seen) m.replays in
    let fit : All ReplayFits live = all_kept ReplayFits (λ r. recent c now r.seen) m.replays x.replays in
    let size : length more ≤ c.replays + 1 = if_by (λ (u : List Replay). length u ≤ c.replays + 1) (seen_in e live) (λ z. omega (arith, x.limit)) (λ z. omega (arith, x.limit, length_snoc live r)) in
    let each : All ReplayFits more = if_by (All ReplayFits) (seen_in e live) (λ z. fit) (λ z. all_append ReplayFits live (r ∷ []) fit (record { ephemeral = f; seen = w }, tt)) in
    record {
      peer = x.peer;
      stamp = x.stamp;
      limit = limited_length c.replays more size;
      replays = if_by (All ReplayFits) (ltb c.replays (length more)) (λ z. all_tail ReplayFits more each) (λ z. each);
      silence = x.silence;
    }

-- ---- silences

module _ (c : Params) (now : ℕ) (w : Word now) (k : ParamsFit c) where
  counting_fits : (epoch : Option ℕ) (s : Option Silence) → IfAny Word epoch → IfAny (SilenceFits c) s → SilenceFits c (counting c now epoch s)
  unfolding counting
  counting_fits epoch None f x = record { epoch = f; count = omega arith; last = w; until = tt; limit = omega arith; counted = tt }
  counting_fits epoch (Some r) f x = if_by (SilenceFits c) (expired c now r || differ r.epoch epoch)
      (λ z. record { epoch = f; count = omega arith; last = w; until = tt; limit = omega arith; counted = tt })
      (λ z. record { epoch = either r.epoch x.epoch; count = x.count; last = x.last; until = x.until; limit = x.limit; counted = x.counted })
    where
      either : (o : Option ℕ) → IfAny Word o → IfAny Word (or_else o epoch)
      either None h = f
      either (Some n) h = h

  -- at the limit the oldest gives way: refusal 1 keeps the limit at 1 or more
  counted_limit : (o : Option Bytes) (s : List Bytes) → length s ≤ c.counted → length (counted_with c o s) ≤ c.counted
  unfolding counted_with
  counted_limit None s h = h
  counted_limit (Some e) s h = if_by (λ (u : List Bytes). length (u ++ (e ∷ [])) ≤ c.counted) (eqb (length s) c.counted)
      (λ z. omega (arith, length_snoc (tail s) e, length_tail s, eqb_sound (length s) c.counted z, k.some_counted))
      (λ z. omega (arith, length_snoc s e, eqb-false (length s) c.counted z))

  counted_fits : (o : Option Bytes) (s : List Bytes) → IfAny (Exactly 32) o → All (Exactly 32) s → All (Exactly 32) (counted_with c o s)
  unfolding counted_with
  counted_fits None s f h = h
  counted_fits (Some e) s f h = all_append (Exactly 32) (if eqb (length s) c.counted then tail s else s) (e ∷ [])
      (if_by (All (Exactly 32)) (eqb (length s) c.counted) (λ z. all_tail (Exactly 32) s h) (λ z. h)) (f, tt)

  silenced_fits : (o : Option Bytes) (r : Silence) → IfAny (Exactly 32) o → SilenceFits c r → SilenceFits c (silenced c now o r)
  unfolding silenced
  silenced_fits o r f x = record {
    epoch = x.epoch;
    count = counter_word r.count;
    last = w;
    until = if_by (IfAny Word) (ltb (saturating_add r.count 1) c.silent) (λ z. x.until) (λ z. deadline_word now _);
    limit = counted_limit o r.counted x.limit;
    counted = counted_fits o r.counted f x.counted;
  }

  pub ended_sizes : (epoch : Option ℕ) (o : Option Bytes) (m : Memory) → IfAny Word epoch → IfAny (Exactly 32) o → Sizes c m → Sizes c (ended c now epoch o m)
  unfolding ended
  ended_sizes epoch o m f g x =
      let r : Silence = counting c now epoch m.silence in
      let fit : SilenceFits c r = counting_fits epoch m.silence f x.silence in
      record {
        peer = x.peer;
        stamp = x.stamp;
        limit = x.limit;
        replays = x.replays;
        silence = if_by (SilenceFits c) (option o false (λ e. any (same e) r.counted)) (λ z. fit) (λ z. silenced_fits o r g fit);
      }
