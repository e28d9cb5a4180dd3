-- Numbers with the least significant byte first: the bytes of one determine it, and runs of bytes are the same where their numbers are.
use Rattle.std.specs.Prelude.{ℕ, zero, suc, ◌+◌, ◌*◌, ◌/◌, ◌%◌, ◌≤◌, ◌<◌, ◌≡◌, refl, Bool, true, false, eqb, length, take, drop, get_or}
use Rattle.std.proofs.Common.{sym, ap, ◌∙◌, eqb-true, Fits, length-take-le, length-drop}
use mathlib.Core.List.{List, [], ◌∷◌}
use native.Mathlib.Omega.{arith}
use Rattle.std.proofs.lemmas.Bool.{eqb-false}
use Rattle.std.specs.Int.{w8}
use Rattle.rules.specs.Base.{same}
use Rattle.lib_laws.specs.Beside.{same_yes, same_no}
use Rattle.lib_laws.specs.Words.{Octets, octets_run}

-- the number that the bytes spell, the least significant first
unfoldable pub little : List ℕ → ℕ
little [] = 0
little (b ∷ s) = b + little s * 256

-- the first n bytes of a number, the least significant first
unfoldable pub lows : ℕ → ℕ → List ℕ
lows zero v = []
lows (suc n) v = v % 256 ∷ lows n (v / 256)

pub length_lows : (n v : ℕ) → length (lows n v) ≡ n
unfolding lows
length_lows zero v = refl
length_lows (suc n) v = ap suc (length_lows n (v / 256))

octets_lows : (n v : ℕ) → Octets (lows n v)
unfolding lows
octets_lows zero v = tt
octets_lows (suc n) v = (omega arith, octets_lows n (v / 256))

-- the bytes of the number are the bytes
pub lows_little : (xs : List ℕ) → Octets xs → lows (length xs) (little xs) ≡ xs
unfolding little lows
lows_little [] a = refl
lows_little (x ∷ xs) a =
    let h : x < 256 = a.0 in
    let p : (x + little xs * 256) % 256 ≡ x = omega arith in
    let q : (x + little xs * 256) / 256 ≡ little xs = omega arith in
    rw (p, q, lows_little xs a.1)

pub lows_run : (n : ℕ) (s : List ℕ) (at : ℕ) → at + n ≤ length s → ((j : ℕ) → Fits w8 (get_or s j 0)) → lows n (little (take n (drop at s))) ≡ take n (drop at s)
lows_run n s at h f =
    let l : length (take n (drop at s)) ≡ n = length-take-le n (drop at s) (rw length-drop (omega arith)) in
    rw l at (lows_little (take n (drop at s)) (octets_run n at s f))

little_injective : (xs ys : List ℕ) → Octets xs → Octets ys → length xs ≡ length ys → little xs ≡ little ys → xs ≡ ys
little_injective xs ys a b e q = sym (lows_little xs a) ∙ rw (q, e) (lows_little ys b)

pub little_same : (xs ys : List ℕ) → Octets xs → Octets ys → length xs ≡ length ys → same xs ys ≡ eqb (little xs) (little ys)
little_same xs ys a b e = go (eqb (little xs) (little ys)) refl
  where
    go : (c : Bool) → eqb (little xs) (little ys) ≡ c → same xs ys ≡ c
    go true q = same_yes xs ys (little_injective xs ys a b e (eqb-true (little xs) (little ys) q))
    go false q = same_no xs ys (λ d. eqb-false (little xs) (little ys) q (ap little d))
