-- A region of bytes as chunks of one width: bytes put into a chunk, past the chunks, and a run of chunks put over others.
use Rattle.std.specs.Prelude.{ℕ, zero, suc, ◌+◌, ◌-◌, ◌*◌, ◌≤◌, ◌<◌, ◌≡◌, refl, List, [], ◌∷◌, ◌++◌, length, take, drop, get_or, set, replicate}
use Rattle.std.proofs.Common.{sym, ap, ◌∙◌, append-nil, not-suc-le-zero, le_of_suc-le-suc, zero-mul, suc-mul, add-zero, add_comm, add-mul, mul-le-mul_right, zero-add, arith, take_at, drop_at, drop-drop, length-take-le, take-add, length-drop, take-append-drop, drop_of_length-le}
use Rattle.std.proofs.lemmas.List.{take-append-le, drop-append-le, length-replicate}
use Rattle.rules.specs.Base.{All}
use Rattle.lib_laws.specs.Splice.{splice, length_splice, set_splice}
use Rattle.lib_laws.specs.Part.{splice_left, splice_right, take_zeros, drop_zeros}

-- ---- chunks
unfoldable pub chunks : ℕ → ℕ → List ℕ → List (List ℕ)
chunks w zero s = []
chunks w (suc n) s = take w s ∷ chunks w n (drop w s)

pub length_chunks : (w n : ℕ) (s : List ℕ) → length (chunks w n s) ≡ n
unfolding chunks
length_chunks w zero s = refl
length_chunks w (suc n) s = ap suc (length_chunks w n (drop w s))

pub chunk_at : (w n : ℕ) (s : List ℕ) (i : ℕ) (d : List ℕ) → i < n → get_or (chunks w n s) i d ≡ take w (drop (i * w) s)
unfolding chunks
chunk_at w zero s i d p = absurd (not-suc-le-zero p)
chunk_at w (suc n) s zero d p = rw zero-mul
chunk_at w (suc n) s (suc i) d p = chunk_at w n (drop w s) i d (le_of_suc-le-suc p) ∙ rw (drop-drop, suc-mul, add_comm w (i * w))

pub chunk_size : (w n : ℕ) (s : List ℕ) (i : ℕ) (d : List ℕ) → i < n → n * w ≤ length s → length (get_or (chunks w n s) i d) ≡ w
chunk_size w n s i d p h =
    let m : suc i * w ≤ n * w = mul-le-mul_right w p in
    let e : suc i * w ≡ i * w + w = suc-mul i w in
    rw (chunk_at w n s i d p) (length-take-le w (drop (i * w) s) (rw length-drop (omega arith)))

chunks_front : (w n : ℕ) (a b : List ℕ) → length a ≡ w → chunks w (suc n) (a ++ b) ≡ a ∷ chunks w n b
unfolding chunks
chunks_front w n a b e = rw (take_at a b w e, drop_at a b w e)

-- bytes put into chunk i
pub chunks_splice : (w n : ℕ) (s : List ℕ) (i o : ℕ) (bs : List ℕ) → i < n → n * w ≤ length s → o + length bs ≤ w
    → chunks w n (splice s (i * w + o) bs) ≡ set (chunks w n s) i (splice (get_or (chunks w n s) i []) o bs)
unfolding chunks
chunks_splice w zero s i o bs p h k = absurd (not-suc-le-zero p)
chunks_splice w (suc n) s zero o bs p h k =
    let m : suc n * w ≡ n * w + w = suc-mul n w in
    let l : length (take w s) ≡ w = length-take-le w s (omega arith) in
    let z : zero * w + o ≡ o = rw zero-mul (zero-add o) in
    ap (λ (q : ℕ). chunks w (suc n) (splice s q bs)) z
    ∙ ap (λ (t : List ℕ). chunks w (suc n) (splice t o bs)) (sym (take-append-drop w s))
    ∙ ap (chunks w (suc n)) (splice_left (take w s) (drop w s) o bs (omega arith))
    ∙ chunks_front w n (splice (take w s) o bs) (drop w s) (length_splice (take w s) o bs (omega arith) ∙ l)
chunks_splice w (suc n) s (suc i) o bs p h k =
    let m : suc n * w ≡ n * w + w = suc-mul n w in
    let l : length (take w s) ≡ w = length-take-le w s (omega arith) in
    let z : suc i * w + o ≡ length (take w s) + (i * w + o) = rw (suc-mul, l) (omega arith) in
    ap (λ (q : ℕ). chunks w (suc n) (splice s q bs)) z
    ∙ ap (λ (t : List ℕ). chunks w (suc n) (splice t (length (take w s) + (i * w + o)) bs)) (sym (take-append-drop w s))
    ∙ ap (chunks w (suc n)) (splice_right (take w s) (drop w s) (i * w + o) bs)
    ∙ chunks_front w n (take w s) (splice (drop w s) (i * w + o) bs) l
    ∙ ap (λ (t : List (List ℕ)). take w s ∷ t) (chunks_splice w n (drop w s) i o bs (le_of_suc-le-suc p) (rw length-drop (omega arith)) k)

-- only the first n * w bytes matter
chunks_append : (w n : ℕ) (a b : List ℕ) → n * w ≤ length a → chunks w n (a ++ b) ≡ chunks w n a
unfolding chunks
chunks_append w zero a b h = refl
chunks_append w (suc n) a b h =
    let e : suc n * w ≡ n * w + w = suc-mul n w in
    rw (take-append-le w a b (omega arith), drop-append-le w a b (omega arith), chunks_append w n (drop w a) b (rw length-drop (omega arith)))

-- bytes put past the chunks
pub chunks_past : (w n : ℕ) (s : List ℕ) (a : ℕ) (bs : List ℕ) → n * w ≤ a → a ≤ length s → chunks w n (splice s a bs) ≡ chunks w n s
unfolding splice
chunks_past w n s a bs h k =
    let l : length (take a s) ≡ a = length-take-le a s k in
    chunks_append w n (take a s) (bs ++ drop (a + length bs) s) (omega arith)
    ∙ sym (chunks_append w n (take a s) (drop a s) (omega arith))
    ∙ ap (chunks w n) (take-append-drop a s)

-- the first k chunks, and those from j on
pub chunks_add : (w i k : ℕ) (s : List ℕ) → chunks w (i + k) s ≡ chunks w i s ++ chunks w k (drop (i * w) s)
unfolding chunks
chunks_add w zero k s = rw (zero-add, zero-mul)
chunks_add w (suc i) k s =
    let e : suc i + k ≡ suc (i + k) = omega arith in
    rw (e, chunks_add w i k (drop w s), drop-drop, suc-mul, add_comm w (i * w))

module _ (w n : ℕ) (s : List ℕ) where
  pub chunks_first : (i : ℕ) → i ≤ n → take i (chunks w n s) ≡ chunks w i s
  chunks_first i h =
      let e : n ≡ i + (n - i) = omega arith in
      ap (λ (q : ℕ). take i (chunks w q s)) e ∙ rw (chunks_add w i (n - i) s) (take_at (chunks w i s) (chunks w (n - i) (drop (i * w) s)) i (length_chunks w i s))

  pub chunks_from : (i : ℕ) → i ≤ n → drop i (chunks w n s) ≡ chunks w (n - i) (drop (i * w) s)
  chunks_from i h =
      let e : n ≡ i + (n - i) = omega arith in
      ap (λ (q : ℕ). drop i (chunks w q s)) e ∙ rw (chunks_add w i (n - i) s) (drop_at (chunks w i s) (chunks w (n - i) (drop (i * w) s)) i (length_chunks w i s))

mul_within : (w i n : ℕ) → i ≤ n → i * w ≤ n * w
mul_within w i n h = mul-le-mul_right w h

-- a run of k chunks put at chunk i
pub chunks_run : (w n : ℕ) (s : List ℕ) (i k : ℕ) (bs : List ℕ) → i + k ≤ n → n * w ≤ length s → length bs ≡ k * w
    → chunks w n (splice s (i * w) bs) ≡ take i (chunks w n s) ++ (chunks w k bs ++ drop (i + k) (chunks w n s))
unfolding splice
chunks_run w n s i k bs p h e =
    let a : i * w + k * w ≤ n * w = rw (← add-mul) (mul-le-mul_right w p) in
    let l : length (take (i * w) s) ≡ i * w = length-take-le (i * w) s (omega arith) in
    let m : (i + k) * w ≡ i * w + length bs = rw (add-mul, e) in
    let q : n ≡ i + (k + (n - (i + k))) = omega arith in
    let r : List ℕ = drop (i * w + length bs) s in
    let t : chunks w (i + (k + (n - (i + k)))) (take (i * w) s ++ (bs ++ r)) ≡ chunks w i s ++ (chunks w k bs ++ chunks w (n - (i + k)) r) =
    chunks_add w i (k + (n - (i + k))) (take (i * w) s ++ (bs ++ r))
    ∙ rw (drop_at (take (i * w) s) (bs ++ r) (i * w) l, chunks_add w k (n - (i + k)) (bs ++ r), drop_at bs r (k * w) e, chunks_append w k bs r (omega arith), chunks_append w i (take (i * w) s) (bs ++ r) (omega arith), first) in
    ap (λ (x : ℕ). chunks w x (take (i * w) s ++ (bs ++ r))) q ∙ t ∙ rw (chunks_first w n s i (omega arith), chunks_from w n s (i + k) p, m)
  where
    first : chunks w i (take (i * w) s) ≡ chunks w i s
    first =
        let b : i * w ≤ n * w = mul_within w i n (omega arith) in
        let l : length (take (i * w) s) ≡ i * w = length-take-le (i * w) s (omega arith) in
        sym (chunks_append w i (take (i * w) s) (drop (i * w) s) (omega arith)) ∙ ap (chunks w i) (take-append-drop (i * w) s)

-- the chunks of a part
pub chunks_part : (w n : ℕ) (s : List ℕ) (j k : ℕ) → j + k ≤ n → n * w ≤ length s → chunks w k (take (k * w) (drop (j * w) s)) ≡ take k (drop j (chunks w n s))
chunks_part w n s j k p h =
    let a : j * w + k * w ≤ n * w = rw (← add-mul) (mul-le-mul_right w p) in
    let l : length (take (k * w) (drop (j * w) s)) ≡ k * w = length-take-le (k * w) (drop (j * w) s) (rw length-drop (omega arith)) in
    sym (chunks_append w k (take (k * w) (drop (j * w) s)) (drop (k * w) (drop (j * w) s)) (omega arith))
    ∙ ap (chunks w k) (take-append-drop (k * w) (drop (j * w) s))
    ∙ sym (rw (chunks_from w n s j (omega arith)) (chunks_first w (n - j) (drop (j * w) s) k (omega arith)))

splice_over : (c bs : List ℕ) → length c ≡ length bs → splice c 0 bs ≡ bs
unfolding splice
splice_over c bs e = rw (zero-add, drop_of_length-le c {i = length bs} (omega arith), append-nil)

-- a whole chunk put
pub chunks_whole : (w n : ℕ) (s : List ℕ) (i : ℕ) (bs : List ℕ) → i < n → n * w ≤ length s → length bs ≡ w
    → chunks w n (splice s (i * w) bs) ≡ set (chunks w n s) i bs
chunks_whole w n s i bs p h e =
    ap (λ (q : ℕ). chunks w n (splice s q bs)) (sym (add-zero (i * w)))
    ∙ chunks_splice w n s i 0 bs p h (omega arith)
    ∙ ap (λ (c : List ℕ). set (chunks w n s) i c) (splice_over (get_or (chunks w n s) i []) bs (chunk_size w n s i [] p h ∙ sym e))

pub chunks_set : (w n : ℕ) (s : List ℕ) (a v : ℕ) → n * w ≤ a → a < length s → chunks w n (set s a v) ≡ chunks w n s
chunks_set w n s a v h k = rw (set_splice s a v k) (chunks_past w n s a (v ∷ []) h (omega arith))

pub chunks_zeros : (w n k : ℕ) → chunks w n (replicate (n * w + k) 0) ≡ replicate n (replicate w 0)
unfolding chunks
chunks_zeros w zero k = refl
chunks_zeros w (suc n) k =
    let e : suc n * w + k ≡ (n * w + k) + w = rw suc-mul (omega arith) in
    rw (e, take_zeros w ((n * w + k) + w) (omega arith), drop_zeros w (n * w + k), chunks_zeros w n k)

-- all in a row
unfoldable pub joined : List (List ℕ) → List ℕ
joined [] = []
joined (b ∷ bs) = b ++ joined bs

pub chunks_joined : (w n : ℕ) (s : List ℕ) → n * w ≤ length s → joined (chunks w n s) ≡ take (n * w) s
unfolding chunks joined
chunks_joined w zero s h = rw zero-mul
chunks_joined w (suc n) s h =
    let e : suc n * w ≡ w + n * w = rw suc-mul (omega arith) in
    rw (e, take-add w (n * w) s) (ap (λ (t : List ℕ). take w s ++ t) (chunks_joined w n (drop w s) (rw length-drop (omega arith))))

pub chunks_size : (w n : ℕ) (s : List ℕ) → n * w ≤ length s → All (λ (c : List ℕ). length c ≡ w) (chunks w n s)
unfolding chunks
chunks_size w zero s h = tt
chunks_size w (suc n) s h =
    let e : suc n * w ≡ n * w + w = suc-mul n w in
    (length-take-le w s (omega arith), chunks_size w n (drop w s) (rw length-drop (omega arith)))

-- one chunk put over another
pub chunk_moved : (w n : ℕ) (s : List ℕ) (i j : ℕ) (d : List ℕ) → i < n → j < n → n * w ≤ length s
    → chunks w n (splice s (i * w) (take w (drop (j * w) s))) ≡ set (chunks w n s) i (get_or (chunks w n s) j d)
chunk_moved w n s i j d p q h =
    chunks_whole w n s i (take w (drop (j * w) s)) p h (ap length (sym (chunk_at w n s j d q)) ∙ chunk_size w n s j d q h)
    ∙ ap (λ (c : List ℕ). set (chunks w n s) i c) (sym (chunk_at w n s j d q))

-- chunks i to j cleared
pub chunks_cleared : (w n : ℕ) (s : List ℕ) (i j : ℕ) → i ≤ j → j ≤ n → n * w ≤ length s
    → chunks w n (splice s (i * w) (replicate ((j - i) * w) 0)) ≡ take i (chunks w n s) ++ (replicate (j - i) (replicate w 0) ++ drop j (chunks w n s))
chunks_cleared w n s i j p q h =
    let e : i + (j - i) ≡ j = omega arith in
    chunks_run w n s i (j - i) (replicate ((j - i) * w) 0) (omega arith) h (length-replicate ((j - i) * w) 0) ∙ rw (blank, e)
  where
    blank : chunks w (j - i) (replicate ((j - i) * w) 0) ≡ replicate (j - i) (replicate w 0)
    blank = ap (λ (k : ℕ). chunks w (j - i) (replicate {A = ℕ} k 0)) (sym (add-zero ((j - i) * w))) ∙ chunks_zeros w (j - i) 0
