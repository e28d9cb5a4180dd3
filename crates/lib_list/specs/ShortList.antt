-- What a contract sees of a ShortList.
use Rattle.std.specs.Prelude.{◌≡◌, ℕ, ◌≤◌, List, length, take}
use Rattle.std.proofs.Common.{arith, length-take-le}

-- the elements, in order, and what stands in the places past them
pub record ShortList (T : Type 0) : Type 0 where
  pub items : List T
  pub spare : List T

-- `l.len()`
abbrev pub short_list_len : {T : Type 0} → ShortList T → ℕ
short_list_len l = length l.items

-- the elements tell how many there are
pub length_items : {T : Type 0} (n : ℕ) (xs : List T) {cap : ℕ} → n ≤ cap → length xs ≡ cap → length (take n xs) ≡ n
length_items n xs h e = length-take-le n xs (omega arith)
