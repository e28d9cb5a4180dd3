-- A map in a region: cap chunks of width w, and then the count. What removal, insertion, push and a change of bytes do to what it shows.
use Prim.Native.Nat.{ℕ, zero, suc, ◌+◌, ◌-◌, ◌*◌, ◌≤◌, ◌<◌}
use Rattle.std.specs.Prelude.{◌≡◌, replicate, Bool, Some}
use Rattle.std.proofs.Math.Path.{refl, sym, ap}
use Rattle.std.proofs.Common.{ap₂, ◌∙◌, not-suc-le-zero, add-mul, rules, drop-cons, length-drop, length-take, drop_of_length-le, take-append-drop}
use mathlib.Core.List.{List, [], ◌∷◌, ◌++◌, map, append_assoc}
use Rattle.std.proofs.Math.Nat.{suc-mul, mul-le-mul_right}
use Rattle.std.proofs.Math.Numerals.{add-one}
use native.Mathlib.Omega.{arith}
use Rattle.std.proofs.Math.Seq.{drop_at, take-append-add, length-take-le, set_split, take-take}
use Rattle.std.proofs.lemmas.List.{take-append-le, get_or-replicate, length-map}
use Rattle.std.proofs.Math.ListN.{length, take, drop, get_or, set, length-append, length-set, length-replicate}
use Rattle.lib_laws.specs.Shift.{Kept, all_replicate, erase, insert, blend, gone, length_insert, length_blend, drop_blend, take_blend, take_insert, map_insert, rest_more, all_insert, all_blend, pushed, all_at, all_take, changed, shown, fit_at}
use Rattle.rules.specs.Base.{All}
use Rattle.lib_laws.specs.Buffer.{kept_same}
use Rattle.lib_laws.specs.Splice.{splice, length_splice, Wrote}
use Rattle.lib_laws.specs.Scan.{scan, kept_within}
use Rattle.lib_laws.specs.Part.{get_d_past, get_d_here}
use Rattle.lib_laws.specs.Chunk.{chunks, chunk_at, length_chunks, chunk_size, chunks_splice, chunks_run, chunks_part, chunks_whole, chunks_set, chunks_zeros, chunks_joined, chunks_size, joined}

-- ---- a store: cap chunks of width w, and then a byte that says how many are in use; the others are zeros
pub record Store (P : List ℕ → Type 0) (w cap : ℕ) (s : List ℕ) : Type 0 where
  pub size : length s ≡ cap * w + 1
  pub kept : Kept P (replicate w 0) cap (get_or s (cap * w) 0) (chunks w cap s)

abbrev pub entries : {B : Type 0} → (List ℕ → B) → ℕ → ℕ → List ℕ → List B
entries f w cap s = map f (take (get_or s (cap * w) 0) (chunks w cap s))

-- removal: the chunks behind are moved down, and the last is cleared
unfoldable pub closed : ℕ → ℕ → ℕ → List ℕ → List ℕ
closed w at n s = splice (splice s (at * w) (take ((n - 1 - at) * w) (drop ((at + 1) * w) s))) ((n - 1) * w) (replicate w 0)

-- insertion: the chunks from there on are moved up, and the new one is put
unfoldable pub opened : ℕ → ℕ → ℕ → List ℕ → List ℕ
opened w at n s = splice s ((at + 1) * w) (take ((n - at) * w) (drop (at * w) s))

module _ (w cap : ℕ) (s : List ℕ) (space : cap * w ≤ length s) where
  length_run : (j k : ℕ) → j + k ≤ cap → length (take (k * w) (drop (j * w) s)) ≡ k * w
  length_run j k p =
      let a : j * w + k * w ≤ cap * w = rw (← add-mul) (mul-le-mul_right w p) in
      length-take-le (k * w) (drop (j * w) s) (rw length-drop (omega arith))

  -- k chunks from j put at i
  moved : (i j k : ℕ) → i + k ≤ cap → j + k ≤ cap
      → chunks w cap (splice s (i * w) (take (k * w) (drop (j * w) s))) ≡ take i (chunks w cap s) ++ (take k (drop j (chunks w cap s)) ++ drop (i + k) (chunks w cap s))
  moved i j k p q = chunks_run w cap s i k (take (k * w) (drop (j * w) s)) p space (length_run j k q) ∙ rw (chunks_part w cap s j k q space)

  length_moved : (i j k : ℕ) → i + k ≤ cap → j + k ≤ cap → length (splice s (i * w) (take (k * w) (drop (j * w) s))) ≡ length s
  length_moved i j k p q =
      let a : i * w + k * w ≤ cap * w = rw (← add-mul) (mul-le-mul_right w p) in
      length_splice s (i * w) (take (k * w) (drop (j * w) s)) (rw (length_run j k q) (omega arith))

  chunks_closed : (at k : ℕ) → at ≤ k → k < cap
      → chunks w cap (closed w at (suc k) s) ≡ set (blend k (erase at (chunks w cap s)) (chunks w cap s)) k (replicate w 0)
  unfolding closed blend erase
  chunks_closed at k h q =
      let cs : List (List ℕ) = chunks w cap s in
      let e : suc k - 1 ≡ k = omega arith in
      let g : k ≡ at + (k - at) = omega arith in
      let l : length (take at (chunks w cap s)) ≡ at = length-take-le at (chunks w cap s) (rw (length_chunks w cap s) (omega arith)) in
      let b : take k (take at (chunks w cap s) ++ drop (at + 1) (chunks w cap s)) ≡ take at (chunks w cap s) ++ take (k - at) (drop (at + 1) (chunks w cap s)) =
      ap (λ (x : ℕ). take x (take at (chunks w cap s) ++ drop (at + 1) (chunks w cap s))) (g ∙ ap (λ (x : ℕ). x + (k - at)) (sym l))
      ∙ take-append-add (take at (chunks w cap s)) (drop (at + 1) (chunks w cap s)) (k - at) in
      let z : at + (k - at) ≡ k = omega arith in
      rw (
        e,
        chunks_whole w cap (splice s (at * w) (take ((k - at) * w) (drop ((at + 1) * w) s))) k (replicate w 0) q
            (rw (length_moved at (at + 1) (k - at) (omega arith) (omega arith)) space) (length-replicate w 0),
        moved at (at + 1) (k - at) (omega arith) (omega arith),
        b,
        z,
      )
      (ap (λ (t : List (List ℕ)). set t k (replicate w 0)) (sym (append_assoc (take at (chunks w cap s)) (take (k - at) (drop (at + 1) (chunks w cap s))) (drop k (chunks w cap s)))))

  chunks_opened : (at k : ℕ) (bs : List ℕ) → at ≤ k → k < cap → length bs ≡ w
      → chunks w cap (splice (opened w at k s) (at * w) bs) ≡ blend (k + 1) (insert at bs (chunks w cap s)) (chunks w cap s)
  unfolding opened blend insert
  chunks_opened at k bs h q lb =
      let l : length (take at (chunks w cap s)) ≡ at = length-take-le at (chunks w cap s) (rw (length_chunks w cap s) (omega arith)) in
      let l1 : length (take (at + 1) (chunks w cap s)) ≡ at + 1 = length-take-le (at + 1) (chunks w cap s) (rw (length_chunks w cap s) (omega arith)) in
      let r : List (List ℕ) = take (k - at) (drop at (chunks w cap s)) ++ drop (k + 1) (chunks w cap s) in
      let g : k + 1 ≡ length (take at (chunks w cap s)) + suc (k - at) = omega arith in
      let b : take (k + 1) (take at (chunks w cap s) ++ bs ∷ drop at (chunks w cap s)) ≡ take at (chunks w cap s) ++ bs ∷ take (k - at) (drop at (chunks w cap s)) =
      ap (λ (x : ℕ). take x (take at (chunks w cap s) ++ bs ∷ drop at (chunks w cap s))) g
      ∙ take-append-add (take at (chunks w cap s)) (bs ∷ drop at (chunks w cap s)) (suc (k - at)) in
      let z : at + 1 + (k - at) ≡ k + 1 = omega arith in
      let a1 : at < length (take (at + 1) (chunks w cap s)) = omega arith in
      let y : set (take (at + 1) (chunks w cap s) ++ r) at bs ≡ take at (chunks w cap s) ++ bs ∷ r =
      set_split (take (at + 1) (chunks w cap s) ++ r) at bs (rw length-append (omega arith))
      ∙ rw (take-append-le at (take (at + 1) (chunks w cap s)) r (omega arith), take-take at (at + 1) (chunks w cap s) (omega arith), drop_at (take (at + 1) (chunks w cap s)) r (suc at) (l1 ∙ add-one at)) in
      rw (
        chunks_whole w cap (splice s ((at + 1) * w) (take ((k - at) * w) (drop (at * w) s))) at bs (omega arith)
            (rw (length_moved (at + 1) at (k - at) (omega arith) (omega arith)) space) lb,
        moved (at + 1) at (k - at) (omega arith) (omega arith),
        z,
        b,
      )
      (y ∙ sym (append_assoc (take at (chunks w cap s)) (bs ∷ take (k - at) (drop at (chunks w cap s))) (drop (k + 1) (chunks w cap s))))

  pub length_closed : (at k : ℕ) → at ≤ k → k < cap → length (closed w at (suc k) s) ≡ length s
  unfolding closed
  length_closed at k h q =
      let e : suc k - 1 ≡ k = omega arith in
      let m : suc k * w ≤ cap * w = mul-le-mul_right w q in
      let n : suc k * w ≡ k * w + w = suc-mul k w in
      let g : length (splice s (at * w) (take ((k - at) * w) (drop ((at + 1) * w) s))) ≡ length s = length_moved at (at + 1) (k - at) (omega arith) (omega arith) in
      rw e (length_splice (splice s (at * w) (take ((k - at) * w) (drop ((at + 1) * w) s))) (k * w) (replicate w 0) (rw length-replicate (omega arith)) ∙ g)

  pub length_opened : (at k : ℕ) → at ≤ k → k < cap → length (opened w at k s) ≡ length s
  unfolding opened
  length_opened at k h q = length_moved (at + 1) at (k - at) (omega arith) (omega arith)

-- what a removal at `at` makes of a store; the gap that is opened for an insertion; what a push makes
unfoldable pub erased : ℕ → ℕ → ℕ → List ℕ → List ℕ
erased w cap at s = set (closed w at (get_or s (cap * w) 0) s) (cap * w) (get_or s (cap * w) 0 - 1)

unfoldable pub gapped : ℕ → ℕ → ℕ → List ℕ → List ℕ
gapped w cap at s = set (opened w at (get_or s (cap * w) 0) s) (cap * w) (get_or s (cap * w) 0 + 1)

module _ {B : Type 0} (f : List ℕ → B) {P : List ℕ → Type 0} {w cap : ℕ} {s : List ℕ} where
  pub store_removed : {at : ℕ} → Store P w cap s → at < get_or s (cap * w) 0 → P (replicate w 0)
      → Store P w cap (erased w cap at s) × (entries f w cap (erased w cap at s) ≡ erase at (entries f w cap s))
  unfolding erased
  store_removed {at} r h pb = go (get_or s (cap * w) 0) refl h r.kept
    where
      go : (n : ℕ) → get_or s (cap * w) 0 ≡ n → at < n → Kept P (replicate w 0) cap n (chunks w cap s)
          → Store P w cap (set (closed w at n s) (cap * w) (n - 1)) × (entries f w cap (set (closed w at n s) (cap * w) (n - 1)) ≡ erase at (map f (take n (chunks w cap s))))
      go zero z q k = absurd (not-suc-le-zero q)
      go (suc m) z q k =
          let e : suc m - 1 ≡ m = omega arith in
          let l : length (closed w at (suc m) s) ≡ length s = length_closed w cap s (omega arith) at m (omega arith) (omega arith) in
          let y = get_d_here (closed w at (suc m) s) (cap * w) m (omega arith) in
          let c = chunks_set w cap (closed w at (suc m) s) (cap * w) m (omega arith) (omega arith) ∙ chunks_closed w cap s (omega arith) at m (omega arith) (omega arith) in
          let g = gone f m k at (omega arith) pb in
          rw e (record { size = rw length-set (omega arith); kept = rw (y, c) g.0 }, rw (y, c) g.1)

  pub store_inserted : {at : ℕ} {bs : List ℕ} → Store P w cap s → at ≤ get_or s (cap * w) 0 → get_or s (cap * w) 0 < cap → P bs → length bs ≡ w
      → Store P w cap (splice (gapped w cap at s) (at * w) bs) × (entries f w cap (splice (gapped w cap at s) (at * w) bs) ≡ insert at (f bs) (entries f w cap s))
  unfolding gapped
  store_inserted {at} {bs} r h q pb lb =
      let n : ℕ = get_or s (cap * w) 0 in
      let cs : List (List ℕ) = chunks w cap s in
      let o : List ℕ = opened w at (get_or s (cap * w) 0) s in
      let l : length (opened w at (get_or s (cap * w) 0) s) ≡ length s = length_opened w cap s (omega arith) at (get_or s (cap * w) 0) h q in
      let lc : length (chunks w cap s) ≡ cap = length_chunks w cap s in
      let li : length (insert at bs (chunks w cap s)) ≡ length (chunks w cap s) + 1 = length_insert at bs (chunks w cap s) (omega arith) in
      let m : suc at * w ≤ cap * w = mul-le-mul_right w (omega arith) in
      let m1 : suc at * w ≡ at * w + w = suc-mul at w in
      let ls : length (set (opened w at (get_or s (cap * w) 0) s) (cap * w) (get_or s (cap * w) 0 + 1)) ≡ length s = rw length-set l in
      let y : get_or (splice (set (opened w at (get_or s (cap * w) 0) s) (cap * w) (get_or s (cap * w) 0 + 1)) (at * w) bs) (cap * w) 0 ≡ get_or s (cap * w) 0 + 1 =
      get_d_past (cap * w) (set (opened w at (get_or s (cap * w) 0) s) (cap * w) (get_or s (cap * w) 0 + 1)) (at * w) bs (omega arith) (omega arith)
      ∙ get_d_here (opened w at (get_or s (cap * w) 0) s) (cap * w) (get_or s (cap * w) 0 + 1) (omega arith) in
      let c : chunks w cap (splice (set (opened w at (get_or s (cap * w) 0) s) (cap * w) (get_or s (cap * w) 0 + 1)) (at * w) bs) ≡ blend (get_or s (cap * w) 0 + 1) (insert at bs (chunks w cap s)) (chunks w cap s) =
      chunks_whole w cap (set (opened w at (get_or s (cap * w) 0) s) (cap * w) (get_or s (cap * w) 0 + 1)) at bs (omega arith) (omega arith) lb
      ∙ ap (λ (t : List (List ℕ)). set t at bs) (chunks_set w cap (opened w at (get_or s (cap * w) 0) s) (cap * w) (get_or s (cap * w) 0 + 1) (omega arith) (omega arith))
      ∙ sym (chunks_whole w cap (opened w at (get_or s (cap * w) 0) s) at bs (omega arith) (omega arith) lb)
      ∙ chunks_opened w cap s (omega arith) at (get_or s (cap * w) 0) bs h q lb in
      let d : cap - (get_or s (cap * w) 0 + 1) ≡ (cap - get_or s (cap * w) 0) - 1 = omega arith in (
        record {
          size = rw (length_splice (set (opened w at (get_or s (cap * w) 0) s) (cap * w) (get_or s (cap * w) 0 + 1)) (at * w) bs (omega arith)) (omega arith);
          kept =
              rw (y, c)
              (record {
                small = omega arith;
                size = length_blend (get_or s (cap * w) 0 + 1) (insert at bs (chunks w cap s)) (chunks w cap s) (omega arith) (omega arith) ∙ lc;
                rest = rw (drop_blend (get_or s (cap * w) 0 + 1) (insert at bs (chunks w cap s)) (chunks w cap s) (omega arith), d)
                    (rest_more (get_or s (cap * w) 0) (cap - get_or s (cap * w) 0) (chunks w cap s) (replicate w 0) r.kept.rest (omega arith));
                each = all_blend P (get_or s (cap * w) 0 + 1) (insert at bs (chunks w cap s)) (chunks w cap s) (all_insert P at bs (chunks w cap s) r.kept.each pb) r.kept.each;
              });
        },
        rw (y, c, take_blend (get_or s (cap * w) 0 + 1) (insert at bs (chunks w cap s)) (chunks w cap s) (omega arith), add-one, take_insert at (get_or s (cap * w) 0) bs (chunks w cap s) (omega arith) (omega arith))
            (map_insert f at bs (take (get_or s (cap * w) 0) (chunks w cap s))),
      )

  -- a push: the bytes of a whole chunk, and then the count
  pub store_pushed : {bs : List ℕ} → Store P w cap s → get_or s (cap * w) 0 < cap → P bs → length bs ≡ w
      → Store P w cap (set (splice s (get_or s (cap * w) 0 * w) bs) (cap * w) (get_or s (cap * w) 0 + 1))
      × (entries f w cap (set (splice s (get_or s (cap * w) 0 * w) bs) (cap * w) (get_or s (cap * w) 0 + 1)) ≡ entries f w cap s ++ (f bs ∷ []))
  store_pushed {bs} r q pb lb =
      let m : suc (get_or s (cap * w) 0) * w ≤ cap * w = mul-le-mul_right w q in
      let m1 : suc (get_or s (cap * w) 0) * w ≡ get_or s (cap * w) 0 * w + w = suc-mul (get_or s (cap * w) 0) w in
      let l : length (splice s (get_or s (cap * w) 0 * w) bs) ≡ length s = length_splice s (get_or s (cap * w) 0 * w) bs (omega arith) in
      let y = get_d_here (splice s (get_or s (cap * w) 0 * w) bs) (cap * w) (get_or s (cap * w) 0 + 1) (omega arith) in
      let c = chunks_set w cap (splice s (get_or s (cap * w) 0 * w) bs) (cap * w) (get_or s (cap * w) 0 + 1) (omega arith) (omega arith)
      ∙ chunks_whole w cap s (get_or s (cap * w) 0) bs q (omega arith) lb in
      let g = pushed f (get_or s (cap * w) 0) bs r.kept pb q in
      (record { size = rw length-set (omega arith); kept = rw (y, c) g.0 }, rw (y, c) g.1)

  -- bytes put into one entry at o
  pub store_changed : (g : B → B) (i o : ℕ) (bs : List ℕ) (d : B) → Store P w cap s → i < get_or s (cap * w) 0 → o + length bs ≤ w
      → ((c : List ℕ) → length c ≡ w → P c → P (splice c o bs)) → ((c : List ℕ) → length c ≡ w → f (splice c o bs) ≡ g (f c))
      → Store P w cap (splice s (i * w + o) bs) × (entries f w cap (splice s (i * w + o) bs) ≡ set (entries f w cap s) i (g (get_or (entries f w cap s) i d)))
  store_changed g i o bs d r h ob keeps shows =
      let m : suc i * w ≤ cap * w = mul-le-mul_right w (omega arith) in
      let m1 : suc i * w ≡ i * w + w = suc-mul i w in
      let l : length (splice s (i * w + o) bs) ≡ length s = length_splice s (i * w + o) bs (omega arith) in
      let y = get_d_past (cap * w) s (i * w + o) bs (omega arith) (omega arith) in
      let c = chunks_splice w cap s i o bs (omega arith) (omega arith) ob in
      let z : length (get_or (chunks w cap s) i []) ≡ w = chunk_size w cap s i [] (omega arith) (omega arith) in
      let k = changed f g i (splice (get_or (chunks w cap s) i []) o bs) [] d r.kept h
      (keeps (get_or (chunks w cap s) i []) z (all_at P (chunks w cap s) i [] r.kept.each (rw (length_chunks w cap s) (omega arith)))) (shows (get_or (chunks w cap s) i []) z) in
      (record { size = omega arith; kept = rw (y, c) k.0 }, rw (y, c) k.1)

-- what the generic functions ask of a store: every product that they compute is bounded here
pub record Closes (w cap at : ℕ) (s : List ℕ) : Type 0 where
  pub size : length s ≡ cap * w + 1
  pub small : get_or s (cap * w) 0 ≤ cap
  pub byte : cap < 256
  pub here : at < get_or s (cap * w) 0
  pub to : at * w ≤ (at + 1) * w
  pub from : (at + 1) * w + (get_or s (cap * w) 0 - 1 - at) * w ≤ cap * w
  pub last : (get_or s (cap * w) 0 - 1) * w + w ≤ cap * w

pub record Opens (w cap at : ℕ) (s : List ℕ) : Type 0 where
  pub size : length s ≡ cap * w + 1
  pub small : get_or s (cap * w) 0 < cap
  pub byte : cap < 256
  pub here : at ≤ get_or s (cap * w) 0
  pub from : at * w ≤ (at + 1) * w
  pub to : (at + 1) * w + (get_or s (cap * w) 0 - at) * w ≤ cap * w

pub next_mul : (i w : ℕ) → (i + 1) * w ≡ i * w + w
next_mul i w = rw add-one (suc-mul i w)

pub closes : {P : List ℕ → Type 0} {w cap at : ℕ} {s : List ℕ} → Store P w cap s → at < get_or s (cap * w) 0 → cap < 256 → Closes w cap at s
closes {w = w} {cap} {at} {s} r h b =
    let a : (at + 1) * w ≡ at * w + w = next_mul at w in
    let e : (at + 1 + (get_or s (cap * w) 0 - 1 - at)) * w ≤ cap * w = mul-le-mul_right w (omega arith) in
    let f : (get_or s (cap * w) 0 - 1 + 1) * w ≤ cap * w = mul-le-mul_right w (omega arith) in
    let g : (get_or s (cap * w) 0 - 1 + 1) * w ≡ (get_or s (cap * w) 0 - 1) * w + w = next_mul (get_or s (cap * w) 0 - 1) w in
    record { size = r.size; small = omega arith; byte = b; here = h; to = omega arith; from = rw add-mul at e; last = omega arith }

pub opens : {P : List ℕ → Type 0} {w cap at : ℕ} {s : List ℕ} → Store P w cap s → at ≤ get_or s (cap * w) 0 → get_or s (cap * w) 0 < cap → cap < 256 → Opens w cap at s
opens {w = w} {cap} {at} {s} r h q b =
    let a : (at + 1) * w ≡ at * w + w = next_mul at w in
    let e : (at + 1 + (get_or s (cap * w) 0 - at)) * w ≤ cap * w = mul-le-mul_right w (omega arith) in
    record { size = r.size; small = q; byte = b; here = h; from = omega arith; to = rw add-mul at e }

pub erased_is : {w cap at : ℕ} {s l m : List ℕ} {q : ℕ} → Closes w cap at s → l ≡ splice s (at * w) (take ((get_or s (cap * w) 0 - 1 - at) * w) (drop ((at + 1) * w) s))
    → Wrote l ((get_or s (cap * w) 0 - 1) * w) w (replicate w 0) m q → set m (cap * w) (get_or s (cap * w) 0 - 1) ≡ erased w cap at s
unfolding erased closed
erased_is a e f = rw (f.is, e)

pub gapped_is : {w cap at : ℕ} {s l : List ℕ} → Opens w cap at s → l ≡ splice s ((at + 1) * w) (take ((get_or s (cap * w) 0 - at) * w) (drop (at * w) s))
    → set l (cap * w) (get_or s (cap * w) 0 + 1) ≡ gapped w cap at s
unfolding gapped opened
gapped_is a e = rw e

pub ruleset chunking = (rules, closes, opens, erased_is, gapped_is)

-- the same, of what a function ensures
module _ {B : Type 0} (f : List ℕ → B) {P : List ℕ → Type 0} {w cap : ℕ} {s : List ℕ} where
  pub removed_is : {at : ℕ} {l : List ℕ} → Store P w cap s → at < get_or s (cap * w) 0 → P (replicate w 0) → l ≡ erased w cap at s
      → Store P w cap l × (entries f w cap l ≡ erase at (entries f w cap s))
  removed_is r h pb e = rw e (store_removed f r h pb)

  pub pushed_is : {bs l : List ℕ} {q : ℕ} {v : B} → Store P w cap s → get_or s (cap * w) 0 < cap → Wrote s (get_or s (cap * w) 0 * w) w bs l q → P bs → f bs ≡ v
      → Store P w cap (set l (cap * w) (get_or s (cap * w) 0 + 1)) × (entries f w cap (set l (cap * w) (get_or s (cap * w) 0 + 1)) ≡ entries f w cap s ++ (v ∷ []))
  pushed_is r h a pb e = rw (a.is, ← e) (store_pushed f r h pb a.size)

  pub changed_is : (g : B → B) (i o : ℕ) (d : B) {n q : ℕ} {bs l : List ℕ} → Wrote s (i * w + o) n bs l q → Store P w cap s → i < get_or s (cap * w) 0 → o + n ≤ w
      → ((c : List ℕ) → length c ≡ w → P c → P (splice c o bs)) → ((c : List ℕ) → length c ≡ w → f (splice c o bs) ≡ g (f c))
      → Store P w cap l × (entries f w cap l ≡ set (entries f w cap s) i (g (get_or (entries f w cap s) i d)))
  changed_is g i o d {bs = bs} a r h ob keeps shows = rw a.is (store_changed f g i o bs d r h (rw a.size ob) keeps shows)

  pub inserted_is : {at : ℕ} {bs l m : List ℕ} {q : ℕ} {v : B} → Store P w cap s → at ≤ get_or s (cap * w) 0 → get_or s (cap * w) 0 < cap → l ≡ gapped w cap at s → Wrote l (at * w) w bs m q → P bs → f bs ≡ v
      → Store P w cap m × (entries f w cap m ≡ insert at v (entries f w cap s))
  inserted_is r h k e a pb z = rw (a.is, e, ← z) (store_inserted f r h k pb a.size)

-- what stands in an entry, and that a place found is one of those in use
module _ {B : Type 0} (f : List ℕ → B) {P : List ℕ → Type 0} {w cap : ℕ} {s : List ℕ} (r : Store P w cap s) where
  pub entry_shows : (i : ℕ) (d : B) → i < get_or s (cap * w) 0 → f (take w (drop (i * w) s)) ≡ get_or (entries f w cap s) i d
  entry_shows i d h = ap f (sym (chunk_at w cap s i [] (omega arith))) ∙ shown f i [] d r.kept h

  pub entry_fits : (i : ℕ) → i < get_or s (cap * w) 0 → P (take w (drop (i * w) s))
  entry_fits i h = rw (← chunk_at w cap s i [] (omega arith)) (fit_at f i [] r.kept h)

  pub entry_within : (t : B → Bool) (i : ℕ) → scan t 0 (entries f w cap s) ≡ Some i → i < get_or s (cap * w) 0
  entry_within t i e = kept_within t f r.kept e

  pub entries_count : length (entries f w cap s) ≡ get_or s (cap * w) 0
  entries_count =
      let l : length (chunks w cap s) ≡ cap = length_chunks w cap s in
      simp (length-map, length-take) (omega arith)

-- a new store
pub store_zeros : (P : List ℕ → Type 0) (w cap : ℕ) → P (replicate w 0) → Store P w cap (replicate (cap * w + 1) 0)
store_zeros P w cap pb =
    let z : ◌≡◌ {A = ℕ} (get_or (replicate (cap * w + 1) 0) (cap * w) 0) 0 = get_or-replicate (cap * w + 1) (cap * w) 0 0 (omega arith) in
    let q : cap - 0 ≡ cap = omega arith in
    record {
      size = length-replicate (cap * w + 1) 0;
      kept =
          rw (z, chunks_zeros w cap 1)
          (record { small = omega arith; size = length-replicate cap (replicate w 0); rest = rw q; each = all_replicate P cap (replicate w 0) pb });
    }

-- ---- equal contents are equal bytes
pub all_both : {A : Type 0} (P Q : A → Type 0) (xs : List A) → All P xs → All Q xs → All (λ (x : A). P x × Q x) xs
all_both P Q [] a b = tt
all_both P Q (x ∷ xs) a b = ((a.0, b.0), all_both P Q xs a.1 b.1)

-- a map that tells elements apart tells lists of them apart
pub map_same : {A B : Type 0} (f : A → B) (Q : A → Type 0) → ((x y : A) → Q x → Q y → f x ≡ f y → x ≡ y)
    → (xs ys : List A) → All Q xs → All Q ys → map f xs ≡ map f ys → xs ≡ ys
map_same f Q apart [] [] a b e = refl
map_same f Q apart [] (y ∷ ys) a b e = let z : ◌≡◌ {A = ℕ} 0 1 = cc in absurd (omega arith)
map_same f Q apart (x ∷ xs) [] a b e = let z : ◌≡◌ {A = ℕ} 0 1 = cc in absurd (omega arith)
map_same {A} {B} f Q apart (x ∷ xs) (y ∷ ys) a b e =
    let h : f x ≡ f y = cc in
    let r : map f xs ≡ map f ys = cc in
    ap₂ (λ (u : A) (us : List A). u ∷ us) (apart x y a.0 b.0 h) (map_same f Q apart xs ys a.1 b.1 r)

-- two regions with the same chunks and the same last byte
region_same : (w cap : ℕ) (s u : List ℕ) → length s ≡ cap * w + 1 → length u ≡ cap * w + 1 → chunks w cap s ≡ chunks w cap u → get_or s (cap * w) 0 ≡ get_or u (cap * w) 0 → s ≡ u
region_same w cap s u h k e q = sym (back s h) ∙ ap₂ (λ (cs : List (List ℕ)) (n : ℕ). joined cs ++ (n ∷ [])) e q ∙ back u k
  where
    back : (s : List ℕ) → length s ≡ cap * w + 1 → joined (chunks w cap s) ++ (get_or s (cap * w) 0 ∷ []) ≡ s
    back s h =
        let z : drop (suc (cap * w)) s ≡ [] = drop_of_length-le s {i = suc (cap * w)} (omega arith) in
        rw (chunks_joined w cap s (omega arith))
        (ap (λ (t : List ℕ). take (cap * w) s ++ t) (sym (drop-cons s (cap * w) 0 (omega arith) ∙ rw z)) ∙ take-append-drop (cap * w) s)

pub same_view : {B : Type 0} (f : List ℕ → B) {P : List ℕ → Type 0} {w cap : ℕ} {s u : List ℕ} → Store P w cap s → Store P w cap u
    → ((c d : List ℕ) → P c × (length c ≡ w) → P d × (length d ≡ w) → f c ≡ f d → c ≡ d) → entries f w cap s ≡ entries f w cap u → s ≡ u
same_view {B} f {P} {w} {cap} {s} {u} r q apart e =
    region_same w cap s u r.size q.size cs count
  where
    count : get_or s (cap * w) 0 ≡ get_or u (cap * w) 0
    count = sym (entries_count f r) ∙ ap length e ∙ entries_count f q

    held : (s : List ℕ) → Store P w cap s → All (λ (c : List ℕ). P c × (length c ≡ w)) (chunks w cap s)
    held s r = all_both P (λ c. length c ≡ w) (chunks w cap s) r.kept.each (chunks_size w cap s (omega arith))

    front : take (get_or s (cap * w) 0) (chunks w cap s) ≡ take (get_or s (cap * w) 0) (chunks w cap u)
    front =
        map_same f (λ c. P c × (length c ≡ w)) apart (take (get_or s (cap * w) 0) (chunks w cap s)) (take (get_or s (cap * w) 0) (chunks w cap u))
        (all_take (λ c. P c × (length c ≡ w)) (get_or s (cap * w) 0) (chunks w cap s) (held s r))
        (all_take (λ c. P c × (length c ≡ w)) (get_or s (cap * w) 0) (chunks w cap u) (held u q))
        (e ∙ rw count)

    cs : chunks w cap s ≡ chunks w cap u
    cs = kept_same r.kept (rw (← count) at q.kept) front
