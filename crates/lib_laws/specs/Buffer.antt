-- A buffer: an array of which the first n elements are in use and the others blank.
use Rattle.std.specs.Prelude.{ℕ, zero, suc, ◌-◌, ◌≡◌, refl, List, [], ◌∷◌, ◌++◌, length, take, drop, replicate}
use Rattle.std.proofs.Common.{sym, ap, ◌∙◌, arith, length-take-le}
use Rattle.std.proofs.Math.Nat.{sub-zero, zero-sub, suc-sub-suc}
use Rattle.std.proofs.lemmas.List.{length-replicate}
use Rattle.rules.specs.Base.{All}
use Rattle.lib_laws.specs.Shift.{Kept}

-- of each element nothing is asked
abbrev pub Any : ℕ → Type 0
Any x = Unit {0}

pub all_any : (xs : List ℕ) → All Any xs
all_any [] = tt
all_any (x ∷ xs) = (tt, all_any xs)

pub drop_replicate : {A : Type 0} (n m : ℕ) (v : A) → drop n (replicate m v) ≡ replicate (m - n) v
drop_replicate zero m v = rw sub-zero
drop_replicate (suc n) zero v = rw zero-sub
drop_replicate (suc n) (suc m) v = rw suc-sub-suc (drop_replicate n m v)

-- an empty buffer
pub kept_empty : (cap : ℕ) → Kept Any 0 cap 0 (replicate cap 0)
kept_empty cap = record { small = omega arith; size = length-replicate cap 0; rest = rw sub-zero; each = all_any (replicate cap 0) }

-- a whole list of cap bytes
pub kept_whole : (cap : ℕ) (l : List ℕ) → length l ≡ cap → Kept Any 0 cap cap l
kept_whole cap l e =
    let z : cap - cap ≡ 0 = omega arith in
    record { small = omega arith; size = e; rest = rw (z, ← e) (drop_all l); each = all_any l }
  where
    drop_all : (l : List ℕ) → drop (length l) l ≡ []
    drop_all [] = refl
    drop_all (x ∷ l) = drop_all l

pub kept_length : {P : ℕ → Type 0} {b cap n : ℕ} {xs : List ℕ} → Kept P b cap n xs → length (take n xs) ≡ n
kept_length {n = n} {xs = xs} k = length-take-le n xs (omega arith)

-- two buffers with the same in use are the same
pub kept_same : {A : Type 0} {P Q : A → Type 0} {b : A} {cap n : ℕ} {xs ys : List A} → Kept P b cap n xs → Kept Q b cap n ys → take n xs ≡ take n ys → xs ≡ ys
kept_same {A} {n = n} {xs} {ys} k l e =
    sym (back n xs) ∙ ap (λ (t : List A). t ++ drop n xs) e ∙ ap (λ (t : List A). take n ys ++ t) (k.rest ∙ sym l.rest) ∙ back n ys
  where
    back : (n : ℕ) (xs : List A) → take n xs ++ drop n xs ≡ xs
    back zero xs = refl
    back (suc n) [] = refl
    back (suc n) (x ∷ xs) = ap (λ (t : List A). x ∷ t) (back n xs)
