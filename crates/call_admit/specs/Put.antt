-- A msg2 that stands in the table, written as an Answer; a Reject; the msg2 that a search yields.
use Rattle.std.specs.Prelude.{◌≡◌, Bool, [], ◌∷◌, ℕ, ◌+◌, ◌≤◌, ◌<◌, length, take, drop, None, Option, Some}
use Rattle.std.proofs.Common.{ap, ◌∙◌, arith, take_all}
use Rattle.rules.specs.Base.{Bytes}
use Rattle.rules.specs.Data.{Table, Source, Denial, Output, Free, Reject}
use Rattle.rules.specs.Settle.{Stored}
use Rattle.rules.specs.Output.{output_record}
use Rattle.lib_laws.specs.Splice.{Wrote}
use Rattle.legs.specs.At.{answer_of}
use Rattle.output_record.specs.Write.{Puts, puts_one}
use Rattle.table_layout.specs.View.{nth_leg}
use Rattle.table_query.specs.Ask.{Yields, stored_at}
use Rattle.call_contract.specs.Did.{Space, space_head, space_tail, puts_cons}

-- ---- the msg2 m, whole
module _ {m u : Bytes} (s : u ≡ m) (h : length u ≤ 128) where
  pub answer_room : (at : ℕ) {k : ℕ} → at + (15 + length m) ≤ k → (length u ≤ 128) × (at + (15 + length u) ≤ k)
  answer_room at r = (h, rw s r)

  pub answer_wrote : {o : Bytes} {at l : ℕ} {o₁ : Bytes} {r link : ℕ} (b : Bool) → l ≡ link → Wrote o at (15 + length u) (output_record (Output.Answer l b u)) o₁ r
      → Wrote o at (15 + length m) (output_record (Output.Answer link b m)) o₁ r
  answer_wrote b e w = rw (← s) (rw e at w)

-- ---- a Reject of a peer, and Free
module _ {o : Bytes} {at : ℕ} {p : Bytes} {k : Source} {why : Denial} {lease : ℕ} (a : Space o at (Reject (Some (p, k)) why ∷ Free lease ∷ [])) where
  pub reject_room : length p ≡ 16 → at + 23 ≤ length o
  reject_room e = omega (arith, e, space_head (Reject (Some (p, k)) why) a)

  pub free_room : {o₁ : Bytes} {r : ℕ} → Wrote o at 23 (output_record (Reject (Some (p, k)) why)) o₁ r → r + 8 ≤ length o₁
  free_room w = space_head (Free lease) (space_tail (Reject (Some (p, k)) why) a w)

pub reject_puts : {o : Bytes} {at : ℕ} {p : Bytes} {k : Source} {why : Denial} {lease : ℕ} {o₁ : Bytes} {b : ℕ} {o₂ : Bytes} {r : ℕ}
    → Wrote o at 23 (output_record (Reject (Some (p, k)) why)) o₁ b → Wrote o₁ b 8 (output_record (Free lease)) o₂ r → Puts o at (Reject (Some (p, k)) why ∷ Free lease ∷ []) o₂ r
reject_puts w v = puts_cons _ w (puts_one _ v)

-- ---- what a search for a stored msg2 yields
module _ {r : Option ℕ} {x : Table} {o : Option Stored} (y : Yields r x o) where
  pub yields_place : {i : ℕ} → r ≡ Some i → i < length x.legs
  yields_place e = rw e at y.within

  pub yields_some : {i : ℕ} → r ≡ Some i → o ≡ Some (record { link = (nth_leg x i).link; msg2 = (answer_of (nth_leg x i)).msg2 })
  yields_some e = y.is ∙ ap (λ (q : Option ℕ). stored_at q x) e

  pub yields_none : r ≡ None → o ≡ None
  yields_none e = y.is ∙ ap (λ (q : Option ℕ). stored_at q x) e
