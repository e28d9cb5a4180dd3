-- A record from standard input. What standard input holds is in no contract; where a record is cut if it gives what it has is `cut_first` (proofs/Input).
use Rattle.std.specs.Prelude.{◌≡◌, refl, ℕ, ◌+◌, ◌-◌, ◌≤◌, ◌<◌, length, take, drop}
use Rattle.std.proofs.Common.{ap, ◌∙◌, arith, length-take}
use Rattle.std.proofs.Math.Nat.{min-le_left}
use borrow.Rule.Slice.PartMut.{put_mid, take_put}
use Rattle.rules.specs.Base.{Bytes}
use Rattle.rules.specs.Field.{more}
use Rattle.settle.specs.Contract.{Left}
use Rattle.tape.specs.Layout.{record_len}
use Rattle.tape.specs.Cut.{said_len}
use Rattle.tape.specs.Step.{before_not, Steps}
use Rattle.tape.specs.declared.session.Phase.{Phase}
use Rattle.tape.specs.declared.session.Phase.TheVariants as phase

-- r bytes were read into the buffer b from one place up to another; those before are as they were
pub record Into (from to : ℕ) (b b' : Bytes) (r : ℕ) : Type 0 where
  pub room : r ≤ to - from
  pub kept : take from b' ≡ take from b

-- r bytes were read of a record that stands in the buffer b: no more than its length says
pub record Cut (b : Bytes) (r : ℕ) : Type 0 where
  pub room : r ≤ length b
  pub said : 2 ≤ r → r ≤ said_len b

-- Standard input has the bytes s, and r of them came into the buffer b: fewer than there are only where the record's length says so.
pub record Comes (s b : Bytes) (r : ℕ) : Type 0 where
  pub same : take r b ≡ take r s
  pub within : r ≤ length s
  pub all : r < length s → (2 ≤ r) × (r ≡ said_len b)

-- ---- a record is read

pub into : {from to r : ℕ} (b p : Bytes) → from ≤ length b → r ≤ length p → length p ≡ length (take (to - from) (drop from b))
    → Into from to b (put_mid from (to - from) b p) r
into {from} {to} b p h q e = record {
  room = omega (arith, q, e, length-take (to - from) (drop from b), min-le_left (to - from) (length (drop from b)));
  kept = take_put from (to - from) b p h;
}

pub cut_short : {got : ℕ} {b : Bytes} → got < 2 → length b ≡ record_len → Cut b got
cut_short q e = record { room = omega (arith, q, e); said = λ h. absurd (omega (arith, h, q)) }

pub cut_whole : {n r : ℕ} {b b' : Bytes} → n < 65_536 → n ≡ more 0 (take 2 b) → Into 2 (n + 2) b b' r → length b' ≡ record_len → Cut b' (2 + r)
cut_whole m f i k = record { room = omega (arith, m, k, i.room); said = λ _. omega (arith, i.room, f, ap (more 0) i.kept) }

-- ---- between two records: a table for the next, and buffers as long as they were

pub record Standing (p : Phase) (t₀ b₀ o₀ t b o : Bytes) : Type 0 where
  pub table : length t ≡ length t₀
  pub buf : length b ≡ length b₀
  pub out : length o ≡ length o₀
  pub left : p ≡ phase.Running → Left t

pub standing_start : (t b o : Bytes) → Standing phase.Before t b o t b o
standing_start t b o = record { table = refl; buf = refl; out = refl; left = λ z. absurd (before_not z) }

pub standing_step : {p q : Phase} {t₀ b₀ o₀ t b o t' b' o' r : Bytes} {n : ℕ} → Standing p t₀ b₀ o₀ t b o → Steps p t r o t' o' q n → length t' ≡ length t → length b' ≡ length b
    → length o' ≡ length o → Standing q t₀ b₀ o₀ t' b' o'
standing_step a s e f g = record { table = e ∙ a.table; buf = f ∙ a.buf; out = g ∙ a.out; left = s.left }
