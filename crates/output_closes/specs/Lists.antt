-- Lists of pairs: what a row of pairs makes, the loop that writes them, and the records with a list, whose header is written last.
use Rattle.std.specs.Prelude.{◌≡◌, refl, List, [], ◌∷◌, ◌++◌, map, ℕ, ◌+◌, ◌*◌, ◌≤◌, ◌<◌, length, take, drop, get_or}
use Rattle.std.proofs.Common.{sym, ap, append_assoc, append-nil, add-zero, add-one, arith, length-append, take-append-drop}
use Rattle.std.proofs.lemmas.List.{length-map, map-append}
use Rattle.std.proofs.Math.Seq.{take-suc}
use Rattle.rules.specs.Base.{Bytes}
use Rattle.rules.specs.Data.{Pair, Output, Retire}
use Rattle.rules.specs.Field.{digits, pair_bytes}
use Rattle.rules.specs.Output.{pairs_bytes, list_bytes, output_bytes, output_record}
use Rattle.lib_laws.specs.Splice.{splice_none, length_digits, Wrote, wrote_then}
use Rattle.node_addr.specs.declared.Pair as pair
use Rattle.node_addr.specs.View.{view_pair}
use Rattle.output_field.specs.Part.{header, pair_length, frame_is, wrote_before}
use Rattle.node_addr.specs.Layout.{pair_width}
use Rattle.lib_list.specs.ShortList.{ShortList, short_list_len}
use Rattle.links.specs.View.{view_closes}

-- ---- a row of pairs

pub pairs_append : (s t : List Pair) → pairs_bytes (s ++ t) ≡ pairs_bytes s ++ pairs_bytes t
pairs_append [] t = refl
pairs_append (p ∷ s) t = rw (pairs_append s t, append_assoc (pair_bytes p) (pairs_bytes s) (pairs_bytes t))

-- none yet
pub pairs_none : (xs : Bytes) (at : ℕ) → at ≤ length xs → Wrote xs at 0 (pairs_bytes []) xs at
pairs_none xs at h = record { end = sym (add-zero at); size = refl; room = rw add-zero h; is = sym (splice_none xs at) }

-- one more
pub pairs_one : {xs : Bytes} {at n : ℕ} {ys : Bytes} {r m : ℕ} {zs : Bytes} {q : ℕ} (s : List Pair) (p : Pair)
    → Wrote xs at n (pairs_bytes s) ys r → Wrote ys r m (pair_bytes p) zs q → Wrote xs at (n + m) (pairs_bytes (s ++ (p ∷ []))) zs q
pairs_one s p a b = rw (pairs_append s (p ∷ []), append-nil (pair_bytes p)) (wrote_then a b)

-- more
pub pairs_more : {xs : Bytes} {at n : ℕ} {ys : Bytes} {r m : ℕ} {zs : Bytes} {q : ℕ} (s t : List Pair)
    → Wrote xs at n (pairs_bytes s) ys r → Wrote ys r m (pairs_bytes t) zs q → Wrote xs at (n + m) (pairs_bytes (s ++ t)) zs q
pairs_more s t a b = rw (pairs_append s t) (wrote_then a b)

-- ---- lengths

pairs_most : (ps : List pair.Pair) → length (pairs_bytes (map view_pair ps)) ≤ pair_width * length ps
pairs_most [] = omega arith
pairs_most (p ∷ ps) = omega (arith, length-append (pair_bytes (view_pair p)) (pairs_bytes (map view_pair ps)), pair_length p, p.addr.small, pairs_most ps)

pub pairs_small : (c : ShortList pair.Pair) → length (pairs_bytes (view_closes c)) ≤ pair_width * short_list_len c
pairs_small c = pairs_most c.items

pub pairs_count : (c : ShortList pair.Pair) → length (view_closes c) ≡ short_list_len c
pairs_count c = length-map c.items view_pair

-- ---- the loop that puts the pairs ps, and stands at pair i, which is p: those before it are put
abbrev pub row : List pair.Pair → Bytes
row ps = pairs_bytes (map view_pair ps)

row_append : (s t : List pair.Pair) → row (s ++ t) ≡ row s ++ row t
row_append s t = rw (map-append view_pair s t) (pairs_append (map view_pair s) (map view_pair t))

module _ (ps : List pair.Pair) (i : ℕ) (p : pair.Pair) (e : p ≡ get_or ps i p) (h : i < length ps) where
  -- one more
  row_more : row (take (i + 1) ps) ≡ row (take i ps) ++ pair_bytes (view_pair p)
  row_more = rw (add-one i, take-suc ps i p h, ← e, row_append (take i ps) (p ∷ []), append-nil (pair_bytes (view_pair p)))

  -- room for it
  pub row_room : length (row (take i ps)) + (5 + p.addr.len) ≤ length (row ps)
  row_room =
      omega (
        arith,
        pair_length p,
        length-append (row (take i ps)) (pair_bytes (view_pair p)),
        ap length row_more,
        length-append (row (take (i + 1) ps)) (row (drop (i + 1) ps)),
        ap length (row_append (take (i + 1) ps) (drop (i + 1) ps)),
        ap (λ (s : List pair.Pair). length (row s)) (take-append-drop (i + 1) ps),
      )

  pub row_put : {xs : Bytes} {at : ℕ} {ys : Bytes} {a m : ℕ} {zs : Bytes} {q : ℕ}
      → Wrote xs at (length (row (take i ps))) (row (take i ps)) ys a → Wrote ys a m (pair_bytes (view_pair p)) zs q
      → Wrote xs at (length (row (take (i + 1) ps))) (row (take (i + 1) ps)) zs q
  row_put v w = let x = wrote_then v w in rw (row_more, x.size) x

-- ---- records with a list

pub list_none : {xs : Bytes} {at k : ℕ} {ys : Bytes} {r : ℕ} → Wrote xs at k (digits 1 0) ys r → Wrote xs at k (list_bytes []) ys r
unfolding list_bytes
list_none a = rw (append-nil (digits 1 0)) a

pub list_one : {xs : Bytes} {at k : ℕ} {ys : Bytes} {r : ℕ} (p : Pair) → Wrote xs at k (digits 1 1 ++ pair_bytes p) ys r → Wrote xs at k (list_bytes (p ∷ [])) ys r
unfolding list_bytes
list_one p a = rw (append-nil (pair_bytes p)) a

-- the header of a Retire, over the 13 bytes before its pairs
pub retire_written : {xs : Bytes} {at m : ℕ} {ys : Bytes} {r : ℕ} {zs : Bytes} {q : ℕ} (n link count : ℕ) (s : List Pair)
    → Wrote xs (at + 13) m (pairs_bytes s) ys r → Wrote ys at 13 (header 8 n ++ digits 8 link ++ digits 1 count) zs q
    → n ≡ 9 + m → length s ≡ count → Wrote xs at (13 + m) (output_record (Retire link s)) zs r
unfolding output_record output_bytes list_bytes
retire_written {m = m} n link count s a b e f =
    let g : length (digits 8 link ++ (digits 1 count ++ pairs_bytes s)) ≡ n = simp (length-append, length_digits) (omega (arith, a.size)) in
    rw (f, ← frame_is 8 n (digits 8 link ++ (digits 1 count ++ pairs_bytes s)) g) (simp append_assoc at (wrote_before a b))

-- the header of a Close: length, version, kind, count
unfoldable pub close_header : ℕ → ℕ → Bytes
close_header count n = header 10 (1 + n) ++ digits 1 count

-- put over the 5 bytes before its pairs
pub close_written : {xs : Bytes} {at m : ℕ} {ys : Bytes} {r : ℕ} {zs : Bytes} {q : ℕ} (count : ℕ) (s : List Pair)
    → Wrote xs (at + 5) m (pairs_bytes s) ys r → Wrote ys at 5 (close_header count m) zs q → length s ≡ count → Wrote xs at (5 + m) (output_record (Output.Close s)) zs r
unfolding output_record output_bytes list_bytes close_header
close_written {m = m} count s a b f =
    let g : length (digits 1 count ++ pairs_bytes s) ≡ 1 + m = simp (length-append, length_digits) (omega (arith, a.size)) in
    rw (f, ← frame_is 10 (1 + m) (digits 1 count ++ pairs_bytes s) g) (simp append_assoc at (wrote_before a b))
