-- Canonical regions that show the same are the same bytes: by the cells of an entry, and by the entries of a region of bytes.
use Rattle.std.specs.Prelude.{◌≡◌, ℕ, zero, suc, ◌+◌, ◌≤◌, length, take, drop, get_or}
use Rattle.std.proofs.Common.{sym, ap, ap₂, ◌∙◌, arith, length-take-le, drop-drop, length-drop, take-append-drop, drop_of_length-le}
use mathlib.Core.List.{List, [], ◌∷◌, ◌++◌, tail}
use Rattle.rules.specs.Base.{Bytes, All}
use Rattle.rules.specs.Bounds.{IsByte}
use Rattle.lib_laws.specs.Shift.{all_take, all_drop}
use Rattle.lib_laws.specs.Cell.{num, num_same}
use Rattle.lib_laws.specs.Chunk.{chunks}
use Rattle.lib_laws.specs.Fields.{cuts, sum}
use Rattle.lib_laws.specs.Store.{Store, all_both}

pub cell_size : (w o : ℕ) (c : Bytes) → o + w ≤ length c → length (take w (drop o c)) ≡ w
cell_size w o c h = length-take-le w (drop o c) (rw length-drop (omega arith))

pub cell_bytes : (w o : ℕ) (c : Bytes) → All IsByte c → All IsByte (take w (drop o c))
cell_bytes w o c a = all_take IsByte w (drop o c) (all_drop IsByte o c a)

-- numbers in cells of one width
pub num_cells : (w o : ℕ) (c d : Bytes) → o + w ≤ length c → o + w ≤ length d → All IsByte c → All IsByte d → num (take w (drop o c)) ≡ num (take w (drop o d)) → take w (drop o c) ≡ take w (drop o d)
num_cells w o c d h k a b e =
    num_same (take w (drop o c)) (take w (drop o d)) (cell_bytes w o c a) (cell_bytes w o d b) (cell_size w o c h ∙ sym (cell_size w o d k)) e

-- what is left of two entries from o on, by its cells
pub cells_same : (o : ℕ) (ws c d : Bytes) → length c ≡ o + sum ws → length d ≡ o + sum ws → cuts 0 o ws c ≡ cuts 0 o ws d → drop o c ≡ drop o d
unfolding sum
cells_same o [] c d h k e = drop_of_length-le c {i = o} (omega arith) ∙ sym (drop_of_length-le d {i = o} (omega arith))
cells_same o (w ∷ ws) c d h k e =
    let z : 0 + o ≡ o = omega arith in
    let x : take w (drop o c) ≡ take w (drop o d) = rw z at (ap (λ (fs : List Bytes). get_or fs 0 []) e) in
    let y : drop (o + w) c ≡ drop (o + w) d = cells_same (o + w) ws c d (omega arith) (omega arith) (ap tail e) in
    sym (take-append-drop w (drop o c)) ∙ ap₂ (λ (u v : Bytes). u ++ v) x (drop-drop w o c ∙ y ∙ sym (drop-drop w o d)) ∙ take-append-drop w (drop o d)

-- the entries of a region of bytes
all_chunks : (w n : ℕ) (s : Bytes) → All IsByte s → All (λ c. All IsByte c) (chunks w n s)
unfolding chunks
all_chunks w zero s a = tt
all_chunks w (suc n) s a = (all_take IsByte w s a, all_chunks w n (drop w s) (all_drop IsByte w s a))

pub with_bytes : {P : Bytes → Type 0} {w cap : ℕ} {s : Bytes} → Store P w cap s → All IsByte s → Store (λ c. P c × All IsByte c) w cap s
with_bytes {P} {w} {cap} {s} f a = record {
  size = f.size;
  kept = record {
    small = f.kept.small;
    size = f.kept.size;
    rest = f.kept.rest;
    each = all_both P (λ c. All IsByte c) (chunks w cap s) f.kept.each (all_chunks w cap s a);
  };
}
