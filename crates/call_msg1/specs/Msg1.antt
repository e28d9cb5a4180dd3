-- What `msg1` comes to.
use Rattle.std.specs.Prelude.{◌≡◌, Bool, true, [], ◌∷◌, ℕ, ◌+◌, ◌≤◌, length, None, Some}
use Rattle.std.proofs.Math.Path.{refl}
use Rattle.std.proofs.Common.{ap, ◌∙◌, arith}
use borrow.Author.Tests.{eq-eqb, ne_eqb}
use Rattle.rules.specs.Base.{Bytes}
use Rattle.rules.specs.Data.{Pair, Held, Table, Hello, Source, Call, Output, Free, Rekey}
use Rattle.rules.specs.Settle.{writes, ok, held_at, stored, attributed, admit, msg1, numbering, step}
use Rattle.rules.specs.Output.{output_record}
use Rattle.lib_laws.specs.Splice.{Wrote}
use Rattle.output_record.specs.Write.{Puts, puts_one}
use Rattle.call_contract.specs.Did.{Space, space_head, space_tail, puts_cons}

module _ (now : ℕ) (y : Hello) (reachable : Bool) (x : Table) where
  pub msg1_stored : {n : ℕ} {m : Bytes} → stored y.from y.bytes x ≡ Some (record { link = n; msg2 = m })
      → msg1 now y reachable x ≡ ok (writes (Output.Answer n true m ∷ Free y.lease ∷ []) x)
  unfolding msg1
  msg1_stored e = rw e

  module _ (e : stored y.from y.bytes x ≡ None) where
    pub msg1_new : held_at y.peer x ≡ None → msg1 now y reachable x ≡ admit now Source.NotHeld y x
    unfolding msg1
    msg1_new q = rw (e, q)

    module _ {h : Held} (q : held_at y.peer x ≡ Some h) {n : ℕ} (v : n ≡ h.epoch) where
      pub msg1_restart : (n ≡ y.epoch → ⊥) → msg1 now y reachable x ≡ admit now Source.Restart y x
      unfolding msg1
      msg1_restart d = rw (e, q, ← v, ne_eqb n y.epoch d)

      pub msg1_rekey : n ≡ y.epoch → msg1 now y reachable x ≡ ok (writes (Rekey y.peer (attributed h y.from x) reachable ∷ Free y.lease ∷ []) x)
      unfolding msg1
      msg1_rekey d = rw (e, q, ← v, eq-eqb n y.epoch d)

  pub step_msg1 : step now (Call.Msg1 y reachable) x ≡ numbering x (msg1 now y reachable x)
  unfolding step
  step_msg1 = refl

pub step_replacement : (now : ℕ) (y : Hello) (x : Table) → step now (Call.Replacement y) x ≡ numbering x (admit now Source.Replacement y x)
unfolding step
step_replacement now y x = refl

-- ---- a Rekey of a peer, and Free
pub attributed_here : (h : Held) {p q : Pair} (x : Table) {b : Bool} → b ≡ attributed h p x → p ≡ q → b ≡ attributed h q x
attributed_here h x e f = e ∙ ap (λ (q : Pair). attributed h q x) f

module _ {p : Bytes} {k b : Bool} (e : b ≡ k) {f : Bool} {lease : ℕ} where
  pub rekey_room : {o : Bytes} {at : ℕ} → length p ≡ 16 → Space o at (Rekey p k f ∷ Free lease ∷ []) → at + 22 ≤ length o
  rekey_room l a = omega (arith, l, space_head (Rekey p k f) a)

  pub rekey_free : {o : Bytes} {at : ℕ} {o₁ : Bytes} {r : ℕ} → Space o at (Rekey p k f ∷ Free lease ∷ []) → Wrote o at 22 (output_record (Rekey p b f)) o₁ r → r + 8 ≤ length o₁
  rekey_free a w = space_head (Free lease) (space_tail (Rekey p k f) a (rw e at w))

  pub rekey_puts : {o : Bytes} {at : ℕ} {o₁ : Bytes} {n : ℕ} {o₂ : Bytes} {r : ℕ} → Wrote o at 22 (output_record (Rekey p b f)) o₁ n → Wrote o₁ n 8 (output_record (Free lease)) o₂ r
      → Puts o at (Rekey p k f ∷ Free lease ∷ []) o₂ r
  rekey_puts w v = puts_cons (Rekey p k f) (rw e at w) (puts_one _ v)
