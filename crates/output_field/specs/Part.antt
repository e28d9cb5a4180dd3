-- The parts of outputs, and the records that they make: a header and its fields.
use Rattle.std.specs.Prelude.{◌≡◌, [], ◌∷◌, ◌++◌, ℕ, ◌+◌, ◌≤◌, length, take, drop}
use Rattle.std.proofs.Common.{sym, ◌∙◌, append_assoc, add_assoc, arith, take-take, drop_at, length-take-le, length-append}
use Rattle.std.proofs.lemmas.List.{take-append-le}
use Rattle.rules.specs.Base.{Bytes}
use Rattle.rules.specs.Data.{Pair, Output}
use Rattle.rules.specs.Field.{digits, pair_bytes, message_bytes, frame}
use Rattle.rules.specs.Output.{output_kind, output_bytes, output_record}
use Rattle.lib_laws.specs.Splice.{splice, length_digits, Wrote, wrote_then}
use Rattle.node_addr.specs.View.{view_pair}
use Rattle.node_addr.specs.Padded.{view}
use Rattle.node_addr.specs.declared.Pair as pair

-- ---- parts

-- what stands before n bytes of fields: length (of what follows), version 1, kind
unfoldable pub header : ℕ → ℕ → Bytes
header kind n = digits 2 (n + 2) ++ (1 ∷ kind ∷ [])

pub header_written : {xs : Bytes} {at : ℕ} {ys : Bytes} {r : ℕ} (kind n : ℕ)
    → Wrote xs at 4 (digits 2 (n + 2) ++ (1 ∷ []) ++ (kind ∷ [])) ys r → Wrote xs at 4 (header kind n) ys r
unfolding header
header_written kind n a = rw (append_assoc (digits 2 (n + 2)) (1 ∷ []) (kind ∷ [])) at a

-- an address takes as many bytes as it counts
addr_length : (p : pair.Pair) → length (view p.addr) ≡ p.addr.len
addr_length p = length-take-le p.addr.len p.addr.bytes (omega (arith, p.addr.small, p.addr.size))

pub pair_written : {xs : Bytes} {at k : ℕ} {ys : Bytes} {r : ℕ} (p : pair.Pair)
    → Wrote xs at k (digits 4 p.transport.0 ++ digits 1 p.addr.len ++ view p.addr) ys r → Wrote xs at k (pair_bytes (view_pair p)) ys r
unfolding pair_bytes
pair_written p a = rw (addr_length p) a

pub message_written : {xs : Bytes} {at : ℕ} {ys : Bytes} {r : ℕ} (n : ℕ) (m : Bytes)
    → length m ≡ n → Wrote xs at (2 + n) (digits 2 n ++ m) ys r → Wrote xs at (2 + n) (message_bytes m) ys r
unfolding message_bytes
message_written n m e a = rw e a

pub length_pair : (p : Pair) → length (pair_bytes p) ≡ 5 + length p.addr
unfolding pair_bytes
length_pair p = simp (length-append, length_digits)

pub pair_length : (p : pair.Pair) → length (pair_bytes (view_pair p)) ≡ 5 + p.addr.len
pair_length p = length_pair (view_pair p) ∙ rw (addr_length p)

-- ---- records

pub frame_is : (kind n : ℕ) (fields : Bytes) → length fields ≡ n → header kind n ++ fields ≡ frame kind fields
unfolding header frame
frame_is kind n fields e = rw (e, append_assoc (digits 2 (n + 2)) (1 ∷ kind ∷ []) fields)

-- a header and then its fields
pub framed : {xs : Bytes} {at : ℕ} {ys : Bytes} {r m : ℕ} {zs : Bytes} {q : ℕ} (kind n : ℕ) (fields : Bytes) (k : ℕ)
    → Wrote xs at 4 (header kind n) ys r → Wrote ys r m fields zs q → n ≡ m → k ≡ 4 + m → Wrote xs at k (frame kind fields) zs q
framed kind n fields k a b e f = rw (f, ← frame_is kind n fields (b.size ∙ sym e)) (wrote_then a b)

pub written : {xs : Bytes} {at : ℕ} {ys : Bytes} {r m : ℕ} {zs : Bytes} {q : ℕ} (o : Output) (n k : ℕ)
    → Wrote xs at 4 (header (output_kind o) n) ys r → Wrote ys r m (output_bytes o) zs q → n ≡ m → k ≡ 4 + m → Wrote xs at k (output_record o) zs q
unfolding output_record
written o n k a b e f = framed (output_kind o) n (output_bytes o) k a b e f

-- ---- what stands before was written last

splice_front : (xs bs cs : Bytes) (at : ℕ) → at + length bs + length cs ≤ length xs → splice (splice xs (at + length bs) cs) at bs ≡ splice xs at (bs ++ cs)
unfolding splice
splice_front xs bs cs at h =
    let n : ℕ = at + length bs in
    let l : length (take (at + length bs) xs) ≡ at + length bs = length-take-le (at + length bs) xs (omega arith) in
    let t : Bytes = cs ++ drop (at + length bs + length cs) xs in
    rw (
      take-append-le at (take (at + length bs) xs) t (omega arith),
      take-take at (at + length bs) xs (omega arith),
      drop_at (take (at + length bs) xs) t (at + length bs) l,
    )
    (simp (append_assoc, length-append, add_assoc))

-- a header put over its place once the fields stand behind it
pub wrote_before : {xs : Bytes} {at n : ℕ} {cs ys : Bytes} {r m : ℕ} {bs zs : Bytes} {q : ℕ}
    → Wrote xs (at + n) m cs ys r → Wrote ys at n bs zs q → Wrote xs at (n + m) (bs ++ cs) zs r
wrote_before {xs} {at} {n} {cs} {ys} {r} {m} {bs} a b =
    record {
      end = omega arith;
      size = rw length-append (omega arith);
      room = omega arith;
      is = rw (b.is, a.is, ← b.size) (splice_front xs bs cs at (omega arith));
    }
