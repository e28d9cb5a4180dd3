-- Rows of bytes compared, and distinct ones counted: what is within a list has no more distinct members.
use Rattle.std.specs.Prelude.{if◌then◌else◌}
use mathlib.Core.Path.{◌≡◌, refl, ap}
use mathlib.Core.Bool.{Bool, true, false, not, ◌&&◌, ◌||◌}
use mathlib.Core.List.{List, [], ◌∷◌}
use Prim.Native.Nat.{◌+◌, ◌≤◌}
use native.Mathlib.Omega.{arith}
use lib.Dec.{eqb}
use lib.ListN.{length}
use Rattle.rules.specs.Base.{Bytes, same, any, keep, one}
use Rattle.rules.specs.Data.{Pair, same_pair}
use Rattle.rules.specs.Settle.{distinct}
use Rattle.rules.proofs.Lists.{eqb_sound, eqb_same}

pub and_left : (a b : Bool) → a && b ≡ true → a ≡ true
and_left true b e = refl
and_left false b e = e

pub and_right : (a b : Bool) → a && b ≡ true → b ≡ true
and_right true b e = e
and_right false b e = cc

pub same_sound : (a b : Bytes) → same a b ≡ true → a ≡ b
same_sound [] [] e = refl
same_sound [] (y ∷ b) e = cc
same_sound (x ∷ a) [] e = cc
same_sound (x ∷ a) (y ∷ b) e = cc (eqb_sound x y (and_left (eqb x y) (same a b) e), same_sound a b (and_right (eqb x y) (same a b) e))

pub same_refl : (a : Bytes) → same a a ≡ true
same_refl [] = refl
same_refl (x ∷ a) = rw (eqb_same x) (same_refl a)

-- a pair is one transport and one address together
pub same_pair_sound : (p q : Pair) → same_pair p q ≡ true → p ≡ q
same_pair_sound p q e =
    let t = eqb_sound p.transport q.transport (and_left _ _ e) in
    let a = same_sound p.addr q.addr (and_right (eqb p.transport q.transport) _ e) in
    λ i. record { transport = t i; addr = a i }

pub same_pair_refl : (p : Pair) → same_pair p p ≡ true
same_pair_refl p = rw (eqb_same p.transport) (same_refl p.addr)

pub or_true_right : (a b : Bool) → b ≡ true → a || b ≡ true
or_true_right true b e = refl
or_true_right false b e = e

pub or_true_left : (a b : Bool) → a ≡ true → a || b ≡ true
or_true_left true b e = refl
or_true_left false b e = cc

abbrev pub Within : List Bytes → List Bytes → Type 0
Within s u = (q : Bytes) → any (same q) s ≡ true → any (same q) u ≡ true

-- the list without any p
abbrev no : Bytes → List Bytes → List Bytes
no p s = keep (λ q. not (same p q)) s

any_no : (p b : Bytes) → same p b ≡ false → (s : List Bytes) → any (same b) (no p s) ≡ any (same b) s
any_no p b d [] = refl
any_no p b d (c ∷ s) = go (same p c) refl (any_no p b d s)
  where
    go : (x : Bool) → same p c ≡ x → any (same b) (no p s) ≡ any (same b) s → any (same b) (if not x then c ∷ no p s else no p s) ≡ same b c || any (same b) s
    go true e ih = rw (other (same b c) refl) ih
      where
        other : (y : Bool) → same b c ≡ y → same b c ≡ false
        other true f = cc (same_sound b c f, d)
        other false f = f
    go false e ih = rw ih

distinct_no : (p : Bytes) (s : List Bytes) → length (distinct (no p s)) + one (any (same p) s) ≡ length (distinct s)
unfolding distinct
distinct_no p [] = refl
distinct_no p (b ∷ s) = go (same p b) refl (distinct_no p s)
  where
    go : (x : Bool) → same p b ≡ x → length (distinct (no p s)) + one (any (same p) s) ≡ length (distinct s)
        → length (distinct (if not x then b ∷ no p s else no p s)) + one (x || any (same p) s) ≡ length (if any (same b) s then distinct s else b ∷ distinct s)
    go true e ih = rw (← same_sound p b e) (first (any (same p) s) ih)
      where
        first : (y : Bool) → length (distinct (no p s)) + one y ≡ length (distinct s) → length (distinct (no p s)) + 1 ≡ length (if y then distinct s else p ∷ distinct s)
        first true h = h
        first false h = omega arith
    go false e ih = rw (any_no p b e s) (later (any (same b) s))
      where
        later : (y : Bool) → length (if y then distinct (no p s) else b ∷ distinct (no p s)) + one (any (same p) s) ≡ length (if y then distinct s else b ∷ distinct s)
        later true = ih
        later false = omega arith

pub within_length : (s u : List Bytes) → Within s u → length (distinct s) ≤ length (distinct u)
unfolding distinct
within_length [] u w = omega arith
within_length (p ∷ s) u w = go (any (same p) s) refl (λ v. within_length s v)
  where
    go : (x : Bool) → any (same p) s ≡ x → ((v : List Bytes) → Within s v → length (distinct s) ≤ length (distinct v)) → length (if x then distinct s else p ∷ distinct s) ≤ length (distinct u)
    go true e ih = ih u (λ q h. w q (or_true_right (same q p) (any (same q) s) h))
    go false e ih = omega (arith, ih (no p u) (λ q h. rest q h (same p q) refl), distinct_no p u, ap one (w p (or_true_left (same p p) (any (same p) s) (same_refl p))))
      where
        rest : (q : Bytes) → any (same q) s ≡ true → (y : Bool) → same p q ≡ y → any (same q) (no p u) ≡ true
        rest q h true f = cc (same_sound p q f)
        rest q h false f = rw (any_no p q f u) (w q (or_true_right (same q p) (any (same q) s) h))
