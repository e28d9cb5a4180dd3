-- What was written is read back.
use Rattle.std.specs.Prelude.{ℕ, zero, suc, ◌+◌, ◌*◌, ◌/◌, ◌%◌, ◌^◌, ◌<◌, ◌≡◌, refl, List, [], ◌∷◌, ◌++◌, length, Some}
use Rattle.std.proofs.Common.{pow-suc, div-lt_iff_lt-mul, arith, le-leb, lit<, take_at, drop_at, length-append}
use Rattle.rules.specs.Field.{more, number, bytes, digits}
use Rattle.lib_laws.specs.Splice.{length_digits}

more_snoc : (a : ℕ) (xs : List ℕ) (x : ℕ) → more a (xs ++ (x ∷ [])) ≡ more a xs * 256 + x
unfolding more
more_snoc a [] x = refl
more_snoc a (y ∷ xs) x = more_snoc (a * 256 + y) xs x

pub more_digits : (n v : ℕ) → v < 256 ^ n → more 0 (digits n v) ≡ v
unfolding more digits
more_digits zero v h = omega arith
more_digits (suc n) v h =
    let q : v < 256 ^ n * 256 = rw pow-suc at h in
    rw (more_snoc 0 (digits n (v / 256)) (v % 256), more_digits n (v / 256) ((div-lt_iff_lt-mul (lit< tt)).1 q)) (omega arith)

pub number_digits : (n v : ℕ) (rest : List ℕ) → v < 256 ^ n → number n (digits n v ++ rest) ≡ Some (v, rest)
unfolding number
number_digits n v rest h =
    let l : length (digits n v) ≡ n = length_digits n v in
    rw (le-leb n (length (digits n v ++ rest)) (simp length-append (omega arith)), take_at (digits n v) rest n l, drop_at (digits n v) rest n l, more_digits n v h)

pub bytes_back : (n : ℕ) (bs rest : List ℕ) → length bs ≡ n → bytes n (bs ++ rest) ≡ Some (bs, rest)
unfolding bytes
bytes_back n bs rest e = rw (le-leb n (length (bs ++ rest)) (simp length-append (omega arith)), take_at bs rest n e, drop_at bs rest n e)
