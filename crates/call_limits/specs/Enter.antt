-- What the answers of this crate say of the rules' refusals 4, 5 and 6.
use Rattle.std.specs.Prelude.{◌≡◌, Bool, true, false, not, ◌&&◌, List, ℕ, ◌+◌, ◌-◌, ◌^◌, ◌≤◌, ◌<◌, eqb, leb, ltb, length, if◌then◌else◌}
use Rattle.std.proofs.Math.Path.{refl, sym}
use Rattle.std.proofs.Common.{ap, ◌∙◌, arith}
use borrow.Author.Tests.{ne_eqb, eqb-false, le-leb, lt-leb, ltb-true}
use Rattle.rules.specs.Base.{Bytes, same, any}
use Rattle.rules.specs.Data.{LinkRec, Table, Result}
use Rattle.rules.specs.Settle.{refuse, places, numbering}
use Rattle.rules.specs.Settle as rule
use Rattle.refusal.specs.Code.{code}
use Rattle.refusal.specs.declared.Refusal.{Refusal}
use Rattle.refusal.specs.declared.Refusal.TheVariants.{Settings, Buffer, Record, Numbers, Links, Names, Paths}
use Rattle.rules.proofs.Walk.{Room}
use Rattle.rules.proofs.Walk as walk
use Rattle.call_contract.specs.Sound.{Sound}
use Rattle.call_limits.specs.Count.{places_few}

-- the answer n is the refusal of a link with the peer p, 0 for none
pub record Enters (n : ℕ) (p : Bytes) (x : Table) : Type 0 where
  pub is : (d : Result) → rule.entering p x d ≡ (if eqb n 0 then d else refuse n x)
  pub room : n ≡ 0 → Room p x
  pub links : n ≡ 0 → length x.links < 32

-- ---- for callers

module _ {p : Bytes} {x : Table} where
  pub entering_passed : Enters 0 p x → (d : Result) → rule.entering p x d ≡ d
  entering_passed e d = e.is d

  pub entering_refused : {n : ℕ} → Enters n p x → (n ≡ 0 → ⊥) → (d : Result) → rule.entering p x d ≡ refuse n x
  entering_refused {n} e h d = e.is d ∙ ap (λ (b : Bool). if b then d else refuse n x) (ne_eqb n 0 h)

  -- the same of a refusal, whose number is not 0
  pub entering_error : (r : Refusal) → Enters (code r) p x → (d : Result) → rule.entering p x d ≡ refuse (code r) x
  entering_error Settings e d = e.is d
  entering_error Buffer e d = e.is d
  entering_error Record e d = e.is d
  entering_error Numbers e d = e.is d
  entering_error Links e d = e.is d
  entering_error Names e d = e.is d
  entering_error Paths e d = e.is d

module _ (x : Table) {b : Bool} (e : b ≡ eqb x.next (2 ^ 64 - 1)) where
  pub numbering_refused : (d : Result) → b ≡ true → numbering x d ≡ refuse 4 x
  unfolding numbering
  numbering_refused d h = rw (← e, h)

  pub numbering_passed : (d : Result) → b ≡ false → numbering x d ≡ d
  unfolding numbering
  numbering_passed d h = rw (← e, h)

  pub numbers : b ≡ false → walk.Numbers x
  numbers h = sym e ∙ h

  -- the next number is not the last
  pub next_room : Sound x → b ≡ false → x.next + 1 < 2 ^ 64
  next_room s h = omega (arith, s.widths.next, eqb-false x.next (2 ^ 64 - 1) (numbers h))

-- ---- the ways to an answer

few : (s : List LinkRec) {n : ℕ} → n ≡ length s → n < 32 → leb 32 (length s) ≡ false
few s c h = lt-leb 32 (length s) (omega (arith, c, h))

and_no : (b : Bool) → b && false ≡ false
and_no true = refl
and_no false = refl

module _ {p : Bytes} {x : Table} {n : ℕ} (c : n ≡ length x.links) where
  -- 32 links
  pub too_many : 32 ≤ n → Enters 5 p x
  unfolding rule.entering
  too_many h = record {
    is = λ d. rw (le-leb 32 (length x.links) (omega (arith, c, h)));
    room = λ e. absurd (eqb-false 5 0 refl e);
    links = λ e. absurd (eqb-false 5 0 refl e);
  }

  module _ (h : n < 32) where
    enters : not (any (same p) (places x)) && leb 32 (length (places x)) ≡ false → Enters 0 p x
    unfolding rule.entering
    enters a = record { is = λ d. rw (few x.links c h, a); room = λ e. (few x.links c h, a); links = λ e. omega (arith, c, h) }

    -- the peer has a place
    pub has_room : {b : Bool} → b ≡ any (same p) (places x) → b ≡ true → Enters 0 p x
    has_room e a = enters (ap (λ (b : Bool). not b && leb 32 (length (places x))) (sym e ∙ a))

    -- a place is left
    pub some_left : {k : ℕ} → k ≡ length (places x) → k < 32 → Enters 0 p x
    some_left e k = enters (ap (λ (b : Bool). not (any (same p) (places x)) && b) (lt-leb 32 (length (places x)) (omega (arith, e, k))) ∙ and_no (not (any (same p) (places x))))

    -- as the three counts show
    pub plenty : {b : Bool} → b ≡ ltb (length x.held + length x.legs + length x.gates) 32 → b ≡ true → Enters 0 p x
    plenty e t =
        let k : length x.held + length x.legs + length x.gates < 32 = ltb-true (length x.held + length x.legs + length x.gates) 32 (sym e ∙ t) in
        some_left refl (omega (arith, k, places_few x))

    -- none is left, and the peer has none
    pub no_place : {b : Bool} {k : ℕ} → b ≡ any (same p) (places x) → b ≡ false → k ≡ length (places x) → 32 ≤ k → Enters 6 p x
    unfolding rule.entering
    no_place e a f k = record {
      is = λ d. rw (few x.links c h, sym e ∙ a, le-leb 32 (length (places x)) (omega (arith, f, k)));
      room = λ z. absurd (eqb-false 6 0 refl z);
      links = λ z. absurd (eqb-false 6 0 refl z);
    }
