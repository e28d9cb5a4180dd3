-- A chunk as fields of given widths.
use Rattle.std.specs.Prelude.{ℕ, zero, suc, ◌+◌, ◌*◌, ◌≤◌, ◌<◌, ◌≡◌, refl, List, [], ◌∷◌, ◌++◌, map, length, take, drop, get_or, set}
use Rattle.std.proofs.Common.{sym, ap, ◌∙◌, append_assoc, add-zero, not-suc-le-zero, le_of_suc-le-suc, suc-mul, mul-le-mul_right, arith, take_at, drop_at, drop-drop, length-take-le, length-append, length-drop, take-append-drop}
use Rattle.lib_laws.specs.Splice.{splice}
use Rattle.lib_laws.specs.Part.{part_append, part_before, part_after, part_same}
use Rattle.lib_laws.specs.Chunk.{joined, chunks, chunk_at}

-- a field of a chunk, read where it stands
pub field_at : (w cap : ℕ) (s : List ℕ) (i : ℕ) (d : List ℕ) (o n : ℕ) → i < cap → o + n ≤ w → cap * w ≤ length s
    → take n (drop o (get_or (chunks w cap s) i d)) ≡ take n (drop (i * w + o) s)
field_at w cap s i d o n p q h =
    let m : suc i * w ≤ cap * w = mul-le-mul_right w p in
    let m1 : suc i * w ≡ i * w + w = suc-mul i w in
    let l : length (take w (drop (i * w) s)) ≡ w = length-take-le w (drop (i * w) s) (rw length-drop (omega arith)) in
    rw (chunk_at w cap s i d p)
    (sym (part_append o n (take w (drop (i * w) s)) (drop w (drop (i * w) s)) (omega arith))
    ∙ ap (λ (t : List ℕ). take n (drop o t)) (take-append-drop w (drop (i * w) s)) ∙ rw drop-drop)

-- the first of it
pub front_at : (w cap : ℕ) (s : List ℕ) (i : ℕ) (d : List ℕ) (n : ℕ) → i < cap → n ≤ w → cap * w ≤ length s → take n (get_or (chunks w cap s) i d) ≡ take n (drop (i * w) s)
front_at w cap s i d n p q h = field_at w cap s i d 0 n p (omega arith) h ∙ rw add-zero

-- ---- fields of given widths: those of ws in a row, the first at b + o
unfoldable pub sum : List ℕ → ℕ
sum [] = 0
sum (w ∷ ws) = w + sum ws

abbrev pub cuts : ℕ → ℕ → List ℕ → List ℕ → List (List ℕ)
cuts b o [] c = []
cuts b o (w ∷ ws) c = take w (drop (b + o) c) ∷ cuts b (o + w) ws c

-- where each of the fields ends, the first at a
abbrev pub ends : ℕ → List ℕ → List ℕ
ends a [] = []
ends a (w ∷ ws) = (a + w) ∷ ends (a + w) ws

cuts_past : (b o : ℕ) (ws c : List ℕ) (a : ℕ) (bs : List ℕ) → a + length bs ≤ b + o → a + length bs ≤ length c → cuts b o ws (splice c a bs) ≡ cuts b o ws c
cuts_past b o [] c a bs h k = refl
cuts_past b o (w ∷ ws) c a bs h k = rw (part_after (b + o) w c a bs h k, cuts_past b (o + w) ws c a bs (omega arith) k)

sum_take : (k : ℕ) (ws : List ℕ) → sum (take k ws) ≤ sum ws
unfolding sum
sum_take zero ws = omega arith
sum_take (suc k) [] = omega arith
sum_take (suc k) (w ∷ ws) = let r = sum_take k ws in omega arith

-- field k put
pub cuts_set : (b o : ℕ) (ws c : List ℕ) (k p : ℕ) (bs : List ℕ) → k < length ws → b + (o + sum ws) ≤ length c → length bs ≡ get_or ws k 0 → p ≡ b + (o + sum (take k ws))
    → cuts b o ws (splice c p bs) ≡ set (cuts b o ws c) k bs
unfolding sum
cuts_set b o [] c k p bs q h e z = absurd (not-suc-le-zero q)
cuts_set b o (w ∷ ws) c zero p bs q h e z =
    let y : p ≡ b + o = omega arith in
    rw (y, part_same w c (b + o) bs (omega arith) e, cuts_past b (o + w) ws c (b + o) bs (omega arith) (omega arith))
cuts_set b o (w ∷ ws) c (suc k) p bs q h e z =
    let s : sum (take k ws) ≤ sum ws = sum_take k ws in
    rw (part_before (b + o) w c p bs (omega arith) (omega arith))
    (ap (λ (t : List (List ℕ)). take w (drop (b + o) c) ∷ t) (cuts_set b (o + w) ws c k p bs (le_of_suc-le-suc q) (omega arith) e (omega arith)))

-- the fields of chunk i, where they stand
pub cuts_at : (w cap : ℕ) (s : List ℕ) (i : ℕ) (d : List ℕ) (o : ℕ) (ws : List ℕ) → i < cap → o + sum ws ≤ w → cap * w ≤ length s
    → cuts (i * w) o ws s ≡ cuts 0 o ws (get_or (chunks w cap s) i d)
unfolding sum
cuts_at w cap s i d o [] p q h = refl
cuts_at w cap s i d o (v ∷ ws) p q h =
    let z : 0 + o ≡ o = omega arith in
    rw (z, field_at w cap s i d o v p (omega arith) h, cuts_at w cap s i d (o + v) ws p (omega arith) h)

pub cuts_joined : (fs : List (List ℕ)) → cuts 0 0 (map length fs) (joined fs) ≡ fs
unfolding joined
cuts_joined fs = go [] fs 0 refl
  where
    go : (front : List ℕ) (fs : List (List ℕ)) (o : ℕ) → length front ≡ o → cuts 0 o (map length fs) (front ++ joined fs) ≡ fs
    go front [] o e = refl
    go front (b ∷ bs) o e =
        let z : 0 + o ≡ o = omega arith in
        let r = go (front ++ b) bs (o + length b) (rw (length-append, e)) in
        rw (z, drop_at front (b ++ joined bs) o e, take_at b (joined bs) (length b) refl)
        (ap (λ (t : List (List ℕ)). b ∷ t) (ap (cuts 0 (o + length b) (map length bs)) (sym (append_assoc front b (joined bs))) ∙ r))

pub length_joined : (fs : List (List ℕ)) → length (joined fs) ≡ sum (map length fs)
unfolding joined sum
length_joined [] = refl
length_joined (b ∷ bs) = rw (length-append, length_joined bs)

-- bytes that spell the fields fs show them
pub cuts_spelt : (fs : List (List ℕ)) (ws c : List ℕ) → map length fs ≡ ws → c ≡ joined fs → cuts 0 0 ws c ≡ fs
cuts_spelt fs ws c e q = rw (← e, q) (cuts_joined fs)
