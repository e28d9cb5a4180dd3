-- If standard input gives what it has, a record that is read ends where the rules' does.
use mathlib.Core.Path.{◌≡◌, refl, sym, ap, ◌∙◌, subst}
use mathlib.Core.Bool.{Bool, true, false}
use Prim.Native.Nat.{ℕ, ◌+◌, ◌≤◌}
use native.Mathlib.Omega.{arith}
use borrow.Author.Tests.{leb-true, leb-false}
use lib.Dec.{leb}
use lib.Seq.{take-take}
use lib.ListN.{length, take}
use Rattle.rules.specs.Base.{Bytes}
use Rattle.rules.specs.Field.{more}
use Rattle.rules.specs.Tape.{extent}
use Rattle.tape.specs.Cut.{said_len, extent_short, extent_whole, extent_cut}
use Rattle.tape.specs.Feed.{Cut, Comes}

module _ {r : ℕ} {b s : Bytes} (a : Cut b r) (g : Comes s b r) where
  same_said : 2 ≤ r → said_len b ≡ said_len s
  same_said h = ap (λ (p : Bytes). more 0 p + 2) (sym (take-take 2 r b h) ∙ ap (take 2) g.same ∙ take-take 2 r s h)

  -- all that there is was read
  came_all : length s ≤ r → r ≡ extent s
  came_all m = go (leb 2 (length s)) (leb (said_len s) (length s)) refl refl
    where
      go : (c d : Bool) → leb 2 (length s) ≡ c → leb (said_len s) (length s) ≡ d → r ≡ extent s
      go true true e f =
          let h : 2 ≤ r = omega (arith, leb-true 2 (length s) e, m) in
          let n : r ≤ said_len s = subst (λ (k : ℕ). r ≤ k) (same_said h) (a.said h) in
          let k = leb-true (said_len s) (length s) f in
          let z : r ≡ said_len s = omega (arith, g.within, n, k, m) in
          z ∙ extent_whole s (leb-true 2 (length s) e) k
      go true false e f = let z : r ≡ length s = omega (arith, g.within, m) in z ∙ extent_cut s (leb-true 2 (length s) e) (leb-false (said_len s) (length s) f)
      go false d e f = let z : r ≡ length s = omega (arith, g.within, m) in z ∙ extent_short s (leb-false 2 (length s) e)

  pub cut_first : r ≡ extent s
  cut_first = go (leb (length s) r) refl
    where
      go : (c : Bool) → leb (length s) r ≡ c → r ≡ extent s
      go true e = came_all (leb-true (length s) r e)
      go false e =
          let x = g.all (leb-false (length s) r e) in
          let z : r ≡ said_len s = x.1 ∙ same_said x.0 in
          z ∙ extent_whole s (omega (arith, x.0, g.within)) (omega (arith, z, g.within))
