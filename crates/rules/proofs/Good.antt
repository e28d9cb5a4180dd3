-- The invariant, what a call keeps, and how two steps come together.
use Rattle.std.specs.Prelude.{if◌then◌else◌, Some}
use mathlib.Core.Path.{◌≡◌, refl, ap, subst}
use mathlib.Core.Bool.{Bool, true, false, not}
use mathlib.Core.List.{List}
use Prim.Native.Nat.{ℕ, ◌+◌, ◌≤◌}
use native.Mathlib.Omega.{arith}
use lib.Dec.{eqb}
use Rattle.rules.specs.Base.{Bytes, find, without, keep, tally, one, All}
use Rattle.rules.specs.Data.{Pair, Holder, LinkRec, Leg, Held, Table, Output, Step, Result}
use Rattle.rules.specs.Links.{numbered, uses, in_use, held_by, hold, retired, retiring, addresses}
use Rattle.rules.specs.Legs.{on_link}
use Rattle.rules.specs.Settle.{named, leg_at, held_at, ◌▸◌}
use Rattle.rules.specs.Claim.{holding, given, gives, records_on, legs_on, held_on, lists, Unused, Owned}
use Rattle.rules.proofs.Lists.{option_by, eqb_sound, eqb_same, tally_append, all_append, all_map, find_test, tally_without, tally_alter_same, tally_found, any_without, all_keep}

-- each link has one owner, and numbers from `next` on are unused
pub record Good (t : Table) : Type 0 where
  pub owned : Owned t
  pub below : (n : ℕ) → t.next ≤ n → records_on n t ≡ 0

-- no pair comes into use
abbrev pub Less : List LinkRec → List LinkRec → Type 0
Less s u = (p : Pair) → in_use p s ≡ false → in_use p u ≡ false

-- none of the pairs is in use
abbrev pub Idle : List LinkRec → List Pair → Type 0
Idle s ps = All (λ p. in_use p s ≡ false) ps

-- a step from t that accepts l as often as `got l`
pub record Fine (t : Table) (got : ℕ → ℕ) (s : Step) : Type 0 where
  pub good : Good s.table
  pub lease : (l : ℕ) → holding l s.table + given l s.outs ≡ holding l t + got l
  pub unused : Unused s.table.links s.outs

-- the same of a call: a refused one accepts nothing
abbrev pub Fair : Table → (ℕ → ℕ) → Result → Type 0
Fair t got d = Fine t (λ l. if eqb d.number 0 then got l else 0) d.step

abbrev pub nothing : ℕ → ℕ
nothing l = 0

-- of each number as many records go as owners
pub good_less : {t u : Table} (gone : ℕ → ℕ) → u.next ≡ t.next → ((m : ℕ) → records_on m u + gone m ≡ records_on m t)
    → ((m : ℕ) → legs_on m u + held_on m u + gone m ≡ legs_on m t + held_on m t) → Good t → Good u
good_less gone e a b k = record {
  owned = record {
    one_owner = λ m. omega (arith, a m, b m, k.owned.one_owner m);
    one_record = λ m. omega (arith, a m, k.owned.one_record m);
  };
  below = λ m h. omega (arith, a m, k.below m (omega arith));
}

-- ---- two steps

pub unused_less : (s u : List LinkRec) → Less s u → (os : List Output) → Unused s os → Unused u os
unused_less s u h os q = all_map (λ o. Idle s (lists o)) (λ o. Idle u (lists o)) (λ o. all_map (λ p. in_use p s ≡ false) (λ p. in_use p u ≡ false) h (lists o)) os q

-- the first accepts nothing; the second brings nothing into use that the first has listed
pub both : {t : Table} {got : ℕ → ℕ} {s : Step} (f : Table → Step) → Fine t nothing s → Fine s.table got (f s.table)
    → Unused (f s.table).table.links s.outs → Fine t got (s ▸ f)
unfolding ◌▸◌
both {t} {got} {s} f x y q = record {
  good = y.good;
  lease = λ l. omega (arith, x.lease l, y.lease l, tally_append (gives l) s.outs (f s.table).outs);
  unused = all_append (λ o. Idle (f s.table).table.links (lists o)) s.outs (f s.table).outs q y.unused;
}

-- the same where no pair comes into use
pub both_less : {t : Table} {got : ℕ → ℕ} {s : Step} (f : Table → Step) → Fine t nothing s → Fine s.table got (f s.table)
    → Less s.table.links (f s.table).table.links → Fine t got (s ▸ f)
both_less {s = s} f x y h = both f x y (unused_less s.table.links (f s.table).table.links h s.outs x.unused)

-- ---- link records

pub less_retired : (n : ℕ) (s : List LinkRec) → Less s (retired n s)
unfolding in_use
less_retired n s p h = any_without (numbered n) (uses p) s h

pub records_hold : (n : ℕ) (h : Holder) (s : List LinkRec) (m : ℕ) → tally (λ r. one (numbered m r)) (hold n h s) ≡ tally (λ r. one (numbered m r)) s
unfolding hold
records_hold n h s m = tally_alter_same (numbered n) (λ r. one (numbered m r)) (held_by h) (λ r. refl) s

not_true : (b : Bool) → not b ≡ true → b ≡ false
not_true true e = cc
not_true false e = refl

-- what is kept is not in use
idle_keep : (s : List LinkRec) (ps : List Pair) → Idle s (keep (λ p. not (in_use p s)) ps)
idle_keep s ps =
    let free : Pair → Bool = λ p. not (in_use p s) in
    all_map (λ p. free p ≡ true) (λ p. in_use p s ≡ false) (λ p. not_true (in_use p s)) (keep free ps) (all_keep free ps)

-- retiring lists what no record left uses
pub idle_retiring : (n : ℕ) (s : List LinkRec) → Idle (retired n s) (retiring n s)
unfolding retiring
idle_retiring n s = option_by (Idle (retired n s)) (find (numbered n) s) (λ e. tt) (λ r e. idle_keep (retired n s) (addresses r))

-- a record that is there is gone
pub records_retired : (n : ℕ) (s : List LinkRec) → 1 ≤ tally (λ r. one (numbered n r)) s → (m : ℕ) → tally (λ r. one (numbered m r)) (retired n s) + one (eqb m n) ≡ tally (λ r. one (numbered m r)) s
records_retired n s h m =
    let x = tally_found (numbered n) s h in
    let same : n ≡ x.0.no = eqb_sound n x.0.no (find_test (numbered n) s x.0 x.1) in
    rw (← same) at (tally_without (numbered n) (λ r. one (numbered m r)) s x.0 x.1)

-- ---- legs and holders that go

module _ (t : Table) (n : ℕ) (g : Leg) (e : leg_at n t ≡ Some g) where
  pub leg_link : n ≡ g.link
  leg_link = eqb_sound n g.link (find_test (on_link n) t.legs g e)

  -- a leg is found again at its own link
  pub own_link : leg_at g.link t ≡ Some g
  own_link = subst (λ (m : ℕ). leg_at m t ≡ Some g) leg_link e

  pub legs_less : (m : ℕ) → tally (λ k. one (on_link m k)) (without (on_link n) t.legs) + one (eqb m n) ≡ legs_on m t
  legs_less m = rw (← leg_link) at (tally_without (on_link n) (λ k. one (on_link m k)) t.legs g e)

  pub leases_less : (l : ℕ) → tally (λ k. one (eqb l k.lease)) (without (on_link n) t.legs) + one (eqb l g.lease) ≡ holding l t
  leases_less l = tally_without (on_link n) (λ k. one (eqb l k.lease)) t.legs g e

  -- its record is there
  pub leg_record : Good t → 1 ≤ records_on n t
  leg_record k = omega (arith, k.owned.one_owner n, legs_less n, ap one (eqb_same n))

module _ (t : Table) (p : Bytes) (h : Held) (e : held_at p t ≡ Some h) where
  pub held_less : (m : ℕ) → tally (λ k. one (eqb m k.link)) (without (named p) t.held) + one (eqb m h.link) ≡ held_on m t
  held_less m = tally_without (named p) (λ k. one (eqb m k.link)) t.held h e

  pub held_record : Good t → 1 ≤ records_on h.link t
  held_record k = omega (arith, k.owned.one_owner h.link, held_less h.link, ap one (eqb_same h.link))
