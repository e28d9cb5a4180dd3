-- A new link and leg, and the msg2 that stands in the leg.
use Rattle.std.specs.Prelude.{◌≡◌, Bool, List, [], ◌∷◌, ◌++◌, ℕ, ◌+◌, ◌-◌, ◌≤◌, ◌<◌, get_or}
use Rattle.std.proofs.Common.{sym, ◌∙◌, arith, length-append}
use Rattle.std.proofs.Math.Path.{ap, subst}
use Rattle.std.proofs.Math.Bool.{false}
use Rattle.std.proofs.Math.Seq.{get_or-append_seam}
use Rattle.std.proofs.Math.ListN.{length}
use Rattle.rules.specs.Base.{Bytes}
use Rattle.rules.specs.Time.{Params}
use Rattle.rules.specs.Data.{Pair, LinkRec, Inbound, Leg, Table, Hello, Output}
use Rattle.rules.specs.Links.{opened}
use Rattle.rules.specs.Legs.{answer_leg}
use Rattle.rules.specs.Settle.{joined, answer}
use Rattle.rules.specs.Output.{output_record}
use Rattle.lib_laws.specs.Splice.{Wrote}
use Rattle.legs.specs.View.{no_leg}
use Rattle.legs.specs.At.{answer_of}
use Rattle.output_record.specs.Write.{puts_one}
use Rattle.table_layout.specs.View.{view_table, Told, nth_leg}
use Rattle.table_layout.proofs.Told.{told_is}
use Rattle.call_contract.specs.Did.{Space, Did, space_head}

-- ---- the leg that came last
module _ (r : LinkRec) (g : Leg) (x : Table) {t : Bytes} (a : Told t (joined r g x)) {k : ℕ} (e : k ≡ length (view_table t).legs) where
  legs_after : (view_table t).legs ≡ x.legs ++ (g ∷ [])
  legs_after = ap (λ (y : Table). y.legs) a.shows

  pub last_within : (1 ≤ k) × (k - 1 < length (view_table t).legs)
  last_within = let l = ap length legs_after in (omega (arith, length-append x.legs (g ∷ [])), omega (arith, length-append x.legs (g ∷ [])))

  last_is : nth_leg (view_table t) (k - 1) ≡ g
  last_is =
      let l : k - 1 ≡ length x.legs = omega (arith, ap length legs_after, length-append x.legs (g ∷ [])) in
      ap (λ (i : ℕ). get_or (view_table t).legs i no_leg) l ∙ ap (λ (s : List Leg). get_or s (length x.legs) no_leg) legs_after ∙ get_or-append_seam x.legs g [] no_leg

-- ---- the leg of the next link, for y
pub leg_is : {s c : Params} (now : ℕ) {k n : ℕ} (y : Hello) (b : Bool) {m₁ m₂ : Bytes} {l : Leg} → c ≡ s → n ≡ k → m₁ ≡ y.bytes → m₂ ≡ y.msg2
    → l ≡ answer_leg c now n (record { peer = y.peer; from = y.from; bytes = m₁; ephemeral = y.ephemeral; epoch = y.epoch; msg2 = m₂; lease = y.lease }) b
    → l ≡ answer_leg s now k y b
leg_is now y b p q f g e = rw (p, q, f, g) at e

-- ---- the answer to y, its leg l
module _ (x : Table) (now : ℕ) (y : Hello) (b : Bool) {l : Leg} (e : l ≡ answer_leg x.params now x.next y b) where
  module _ {t : Bytes} {p : Pair} (f : p ≡ y.from) (a : Told t (joined (opened x.next p Inbound) l x)) {k : ℕ} (z : k ≡ length (view_table t).legs) where
    written : nth_leg (view_table t) (k - 1) ≡ answer_leg x.params now x.next y b
    written = last_is (opened x.next p Inbound) l x a z ∙ e

    pub msg2_room : {o : Bytes} {at : ℕ} → Space o at (answer now y b x).outs → at + (15 + length (answer_of (nth_leg (view_table t) (k - 1))).msg2) ≤ length o
    unfolding answer answer_leg
    msg2_room {o} {at} s = subst (λ (g : Leg). at + (15 + length (answer_of g).msg2) ≤ length o) (sym written) (space_head (Output.Answer x.next false y.msg2) s)

    pub answer_did : {o : Bytes} {at j : ℕ} {o₁ : Bytes} {r : ℕ}
        → Wrote o at j (output_record (Output.Answer (nth_leg (view_table t) (k - 1)).link false (answer_of (nth_leg (view_table t) (k - 1))).msg2)) o₁ r → Did o at t o₁ r (answer now y b x)
    unfolding answer answer_leg
    answer_did {o} {at} {j} {o₁} {r} w = record {
      table = told_is a (ap (λ (q : Pair). joined (opened x.next q Inbound) l x) f ∙ ap (λ (g : Leg). joined (opened x.next y.from Inbound) g x) e);
      puts = puts_one _ (subst (λ (g : Leg). Wrote o at j (output_record (Output.Answer g.link false (answer_of g).msg2)) o₁ r) written w);
    }
