-- (ii) in words: whose a live link is, and that every leg and every held peer has one.
use mathlib.Core.Path.{◌≡◌, refl, ap}
use mathlib.Core.Logic.{◌⊎◌, inl, inr}
use mathlib.Core.List.{List, Memᴰ}
use Prim.Native.Nat.{ℕ, zero, suc, ◌+◌, ◌≤◌}
use native.Mathlib.Omega.{arith}
use lib.Dec.{eqb}
use Rattle.rules.specs.Base.{tally, one}
use Rattle.rules.specs.Data.{Leg, Held, Table}
use Rattle.rules.specs.Claim.{records_on, legs_on, held_on, Owned}
use Rattle.rules.proofs.Lists.{eqb_same}

tally_mem : {A : Type 0} (f : A → ℕ) {a : A} {s : List A} → Memᴰ a s → f a ≤ tally f s
tally_mem f (Memᴰ.head e) = omega (arith, ap f e)
tally_mem f (Memᴰ.tail m) = omega (arith, tally_mem f m)

module _ (t : Table) (k : Owned t) where
  -- a live link has one leg and no held peer, or no leg and one held peer
  pub live_owner : (n : ℕ) → 1 ≤ records_on n t → ((legs_on n t ≡ 1) × (held_on n t ≡ 0)) ⊎ ((legs_on n t ≡ 0) × (held_on n t ≡ 1))
  live_owner n h = go (legs_on n t) (held_on n t) (omega (arith, k.one_owner n, k.one_record n))
    where
      go : (a b : ℕ) → a + b ≡ 1 → ((a ≡ 1) × (b ≡ 0)) ⊎ ((a ≡ 0) × (b ≡ 1))
      go zero b e = inr (refl, omega arith)
      go (suc a) b e = inl (omega arith, omega arith)

  -- every leg's link is live, and every held peer's
  pub leg_live : (g : Leg) → Memᴰ g t.legs → records_on g.link t ≡ 1
  leg_live g m = omega (arith, k.one_owner g.link, k.one_record g.link, tally_mem (λ j. one (eqb g.link j.link)) m, ap one (eqb_same g.link))

  pub held_live : (h : Held) → Memᴰ h t.held → records_on h.link t ≡ 1
  held_live h m = omega (arith, k.one_owner h.link, k.one_record h.link, tally_mem (λ j. one (eqb h.link j.link)) m, ap one (eqb_same h.link))
