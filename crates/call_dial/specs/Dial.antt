-- A dial: what it opens, and its refusals.
use Rattle.std.specs.Prelude.{◌≡◌, Bool, true, false, ℕ, ◌+◌, ◌-◌, ◌^◌, ◌≤◌, eqb, length}
use Rattle.std.proofs.Common.{ap, ◌∙◌, subst}
use Rattle.rules.specs.Base.{Bytes}
use Rattle.rules.specs.Time.{Params}
use Rattle.rules.specs.Data.{Pair, Outbound, Leg, Table, Call, Opened}
use Rattle.rules.specs.Output.{output_record}
use Rattle.rules.specs.Links.{opened}
use Rattle.rules.specs.Legs.{dial_leg}
use Rattle.rules.specs.Settle.{joined, ok, refuse, entering, dial, step}
use Rattle.refusal.specs.Code.{code}
use Rattle.refusal.specs.declared.Refusal.{Refusal}
use Rattle.lib_laws.specs.Splice.{Wrote}
use Rattle.output_record.specs.Write.{puts_one}
use Rattle.table_layout.specs.View.{Told}
use Rattle.table_layout.proofs.Told.{told_is}
use Rattle.call_contract.specs.Did.{Space, Did, space_head}
use Rattle.call_limits.specs.Enter.{Enters, entering_passed, entering_refused, entering_error, numbering_passed, numbering_refused}

module _ (now : ℕ) (p : Bytes) (to : Pair) (m : Bytes) (l : ℕ) (x : Table) where
  -- ---- what it opens

  pub dial_room : {o : Bytes} {at : ℕ} → Space o at (dial now p to m l x).outs → at + 12 ≤ length o
  unfolding dial
  dial_room a = space_head (Opened x.next) a

  module _ {n : ℕ} {c : Params} {g : Leg} (e : n ≡ x.next) (q : c ≡ x.params) (s : g ≡ dial_leg c now n p m l) where
    leg_is : g ≡ dial_leg x.params now x.next p m l
    leg_is = s ∙ ap (λ (d : Params). dial_leg d now n p m l) q ∙ ap (λ (k : ℕ). dial_leg x.params now k p m l) e

    pub dial_did : {o : Bytes} {at k : ℕ} {t o' : Bytes} {r : ℕ} → Told t (joined (opened x.next to Outbound) g x) → Wrote o at k (output_record (Opened n)) o' r
        → Did o at t o' r (dial now p to m l x)
    unfolding dial
    dial_did {o} {at} {k} {t} {o'} {r} a w = record {
      table = told_is a (ap (λ (h : Leg). joined (opened x.next to Outbound) h x) leg_is);
      puts = puts_one (Opened x.next) (subst (λ (i : ℕ). Wrote o at k (output_record (Opened i)) o' r) e w);
    }

  -- ---- its refusals

  module _ {b : Bool} (e : b ≡ eqb x.next (2 ^ 64 - 1)) where
    pub dial_exhausted : b ≡ true → step now (Call.Dial p to m l) x ≡ refuse 4 x
    unfolding step
    dial_exhausted h = numbering_refused x e (entering p x (ok (dial now p to m l x))) h

    module _ (h : b ≡ false) where
      pub dial_refused : {n : ℕ} → Enters n p x → (n ≡ 0 → ⊥) → step now (Call.Dial p to m l) x ≡ refuse n x
      unfolding step
      dial_refused a f = numbering_passed x e (entering p x (ok (dial now p to m l x))) h ∙ entering_refused a f (ok (dial now p to m l x))

      pub dial_error : (r : Refusal) → Enters (code r) p x → step now (Call.Dial p to m l) x ≡ refuse (code r) x
      unfolding step
      dial_error r a = numbering_passed x e (entering p x (ok (dial now p to m l x))) h ∙ entering_error r a (ok (dial now p to m l x))

      pub dial_passed : Enters 0 p x → step now (Call.Dial p to m l) x ≡ ok (dial now p to m l x)
      unfolding step
      dial_passed a = numbering_passed x e (entering p x (ok (dial now p to m l x))) h ∙ entering_passed a (ok (dial now p to m l x))
