-- Laws of pairs and messages in lent memory: what is written shows, canonical cells which show the same are the same, and what was read at a place is what stands there.
use Rattle.std.specs.Prelude.{◌≡◌, refl, Bool, true, false, ◌&&◌, [], ◌∷◌, ◌++◌, ℕ, ◌+◌, ◌-◌, ◌≤◌, eqb, length, take, drop, get_or, replicate}
use Rattle.std.proofs.Common.{sym, ap, ◌∙◌, append_assoc, append-nil, one-add, arith, eqb-true, lit≤, take-take, take_at, drop_at, take_all, take-add, drop-drop, drop-cons, get_or-drop, length-take-le, length-take, length-drop, take-append-drop, Fits}
use Rattle.std.proofs.lemmas.Bool.{eqb-false}
use Rattle.std.proofs.Math.ListN.{length-append}
use Rattle.std.specs.Int.{w8, w32}
use Rattle.rules.specs.Base.{Bytes, All, same}
use Rattle.rules.specs.Bounds.{IsByte}
use Rattle.rules.specs.Data.{Pair, same_pair}
use Rattle.rules.specs.Field.{more, digits}
use Rattle.lib_laws.specs.Shift.{Kept, all_take}
use Rattle.lib_laws.specs.Buffer.{Any, all_any}
use Rattle.lib_laws.specs.Beside.{same_apart}
use Rattle.lib_laws.specs.Words.{Octets, octets_run, octets_take, number_same, same_append}
use Rattle.lib_laws.specs.Splice.{length_digits, Wrote}
use Rattle.lib_laws.specs.Round.{more_digits}
use Rattle.lib_laws.specs.Part.{part_of, part_at}
use Rattle.lib_laws.specs.Cell.{num, byte_of, text_of, Text, text_same, num_same}
use Rattle.node_addr.specs.Layout.{message_width, pair_width}
use Rattle.node_addr.specs.View.{view_pair}
use Rattle.node_addr.specs.Padded.{view}
use Rattle.node_addr.specs.declared.padded.Padded.{Padded}
use Rattle.node_addr.proofs.Filled.{kept_padded, padded, kept_filled}
use Rattle.node_addr.specs.Alike.{byte_here, pair_unlike, pair_like, same_unlike, same_kept}
use Rattle.node_addr.specs.declared.Pair as pair
use Rattle.node_addr.specs.Place.{pair_of, PairCell, pair_cell, pair_here, PairIn, message_of, MessageCell, message_cell}

-- ---- a pair

-- the three parts
pub pair_parts : (s : Bytes) (at : ℕ) → pair_of (take pair_width (drop at s)) ≡ record { transport = num (take 4 (drop at s)); addr = text_of (take 1 (drop (at + 4) s)) (take 48 (drop (at + 5) s)) }
unfolding pair_of
pair_parts s at = rw (part_of 0 4 pair_width (drop at s) (lit≤ tt), part_at pair_width s at 4 1 (lit≤ tt), part_at pair_width s at 5 48 (lit≤ tt))

pub pair_text : (s : Bytes) (at : ℕ) → PairCell (take pair_width (drop at s)) → Text 48 (take 1 (drop (at + 4) s)) (take 48 (drop (at + 5) s))
pair_text s at c = rw (part_at pair_width s at 4 1 (lit≤ tt), part_at pair_width s at 5 48 (lit≤ tt)) at c.addr

-- the address's cell in it
pub pair_addr : (s : Bytes) (at : ℕ) → PairCell (take pair_width (drop at s)) → Text 48 (take 1 (drop (at + 4) s)) (take 48 (drop (at + 4 + 1) s))
pair_addr s at c = let n : at + 4 + 1 ≡ at + 5 = omega arith in rw n (pair_text s at c)

module _ (t n : ℕ) (bs : Bytes) where
  cell_transport : take 4 (digits 4 t ++ (n ∷ bs)) ≡ digits 4 t
  cell_transport = take_at (digits 4 t) (n ∷ bs) 4 (length_digits 4 t)

  cell_length : take 1 (drop 4 (digits 4 t ++ (n ∷ bs))) ≡ n ∷ []
  cell_length = rw (drop_at (digits 4 t) (n ∷ bs) 4 (length_digits 4 t))

  cell_addr : length bs ≡ 48 → take 48 (drop 5 (digits 4 t ++ (n ∷ bs))) ≡ bs
  cell_addr h =
      rw (← drop-drop 1 4 (digits 4 t ++ (n ∷ bs)), drop_at (digits 4 t) (n ∷ bs) 4 (length_digits 4 t)) (take_all 48 bs (omega arith))

module _ (p : pair.Pair) where
  pub pair_cell_length : length (pair_cell p) ≡ pair_width
  unfolding pair_cell
  pair_cell_length = simp length-append (rw (length_digits 4 p.transport.0, p.addr.size))

  pub pair_cell_fit : PairCell (pair_cell p)
  unfolding pair_cell
  pair_cell_fit = record {
    size = pair_cell_length;
    addr = rw (cell_length p.transport.0 p.addr.len p.addr.bytes, cell_addr p.transport.0 p.addr.len p.addr.bytes p.addr.size) (
        record { size = refl; kept = kept_padded p.addr }
        );
  }

  pub pair_cell_shows : Fits w32 p.transport.0 → pair_of (pair_cell p) ≡ view_pair p
  unfolding pair_of pair_cell
  pair_cell_shows b = rw (
    cell_transport p.transport.0 p.addr.len p.addr.bytes,
    cell_length p.transport.0 p.addr.len p.addr.bytes,
    cell_addr p.transport.0 p.addr.len p.addr.bytes p.addr.size,
    more_digits 4 p.transport.0 b.fits,
  )

-- a cell is its three parts
pair_whole : (c : Bytes) → length c ≡ pair_width → c ≡ take 4 c ++ (take 1 (drop 4 c) ++ take 48 (drop 5 c))
pair_whole c h =
    sym (take-append-drop 4 c)
    ∙ ap (λ (u : Bytes). take 4 c ++ u) (
    sym (take-append-drop 1 (drop 4 c))
    ∙ ap (λ (u : Bytes). take 1 (drop 4 c) ++ u) (drop-drop 1 4 c ∙ sym (take_all 48 (drop 5 c) (rw length-drop (omega arith))))
    )

pub pair_cell_same : {c d : Bytes} → PairCell c → PairCell d → All IsByte c → All IsByte d → pair_of c ≡ pair_of d → c ≡ d
unfolding pair_of
pair_cell_same {c} {d} a b x y e =
    let t : take 4 c ≡ take 4 d = num_same (take 4 c) (take 4 d) (all_take IsByte 4 c x) (all_take IsByte 4 d y) (simp length-take (omega arith)) (ap (λ (p : Pair). p.transport) e) in
    let r = text_same a.addr b.addr (ap (λ (p : Pair). p.addr) e) in
    pair_whole c a.size ∙ rw (t, r.0, r.1) (sym (pair_whole d b.size))

-- zeroed memory
pub pair_zeros : PairCell (replicate pair_width 0)
pair_zeros = record { size = refl; addr = record { size = refl; kept = record { small = lit≤ tt; size = refl; rest = refl; each = all_any (replicate 48 0) } } }

pub pair_zeros_shows : pair_of (replicate pair_width 0) ≡ record { transport = 0; addr = [] }
unfolding pair_of more
pair_zeros_shows = refl

-- a pair that was read at a place: by what its address shows
pub pair_shown : (s : Bytes) (at t : ℕ) (a : Padded 48) → t ≡ num (take 4 (drop at s)) → view a ≡ text_of (take 1 (drop (at + 4) s)) (take 48 (drop (at + 4 + 1) s))
    → view_pair (record { transport = record { 0 = t }; addr = a }) ≡ pair_of (take pair_width (drop at s))
pair_shown s at t a e f =
    let n : at + 4 + 1 ≡ at + 5 = omega arith in
    rw (e, f, n) (sym (pair_parts s at))

-- and by its bytes, which are an address
pub pair_loaded : (s : Bytes) (at t n : ℕ) (b : Bytes) → PairCell (take pair_width (drop at s)) → t ≡ num (take 4 (drop at s)) → n ≡ get_or s (at + 4) 0 → b ≡ take 48 (drop (at + 5) s) ++ []
    → (kept : Kept Any 0 48 n b) × (view_pair (record { transport = record { 0 = t }; addr = padded kept }) ≡ pair_of (take pair_width (drop at s)))
pair_loaded s at t n b c e f g =
    let n-is : n ≡ byte_of (take 1 (drop (at + 4) s)) = f ∙ byte_here s (at + 4) in
    let b-is : b ≡ take 48 (drop (at + 5) s) = g ∙ append-nil (take 48 (drop (at + 5) s)) in
    let place : at + 4 + 1 ≡ at + 5 = omega arith in
    let kept : Kept Any 0 48 n b = rw (n-is, b-is) (pair_text s at c).kept in
    let shows : take n b ≡ text_of (take 1 (drop (at + 4) s)) (take 48 (drop (at + 4 + 1) s)) = rw (n-is, b-is, place) in
    (kept, pair_shown s at t (padded kept) e shows)

-- a pair that was written
pub pair_written : (p : pair.Pair) {xs : Bytes} {at : ℕ} {ys : Bytes} {r : ℕ}
    → Wrote xs at pair_width ((digits 4 p.transport.0 ++ (p.addr.len ∷ [])) ++ take 48 p.addr.bytes) ys r → Wrote xs at pair_width (pair_cell p) ys r
unfolding pair_cell
pair_written p w = rw (append_assoc (digits 4 p.transport.0) (p.addr.len ∷ []) (take 48 p.addr.bytes), take_all 48 p.addr.bytes (omega (arith, p.addr.size))) at w

-- a pair beside the one at a place: the transports differ, the lengths differ, and neither
module _ (s : Bytes) (at : ℕ) (p : pair.Pair) where
  pub pair_other : {t : ℕ} → t ≡ num (take 4 (drop at s)) → (t ≡ p.transport.0 → ⊥) → false ≡ same_pair (view_pair p) (pair_of (take pair_width (drop at s)))
  pair_other e d = rw (pair_parts s at) (
      pair_unlike (view_pair p) (record { transport = num (take 4 (drop at s)); addr = text_of (take 1 (drop (at + 4) s)) (take 48 (drop (at + 5) s)) }) (λ q. d (e ∙ sym q)))

  -- by what the addresses show
  pub pair_told : {r : Bool} {t : ℕ} → t ≡ num (take 4 (drop at s)) → t ≡ p.transport.0 → r ≡ same (view p.addr) (text_of (take 1 (drop (at + 4) s)) (take 48 (drop (at + 4 + 1) s)))
      → r ≡ same_pair (view_pair p) (pair_of (take pair_width (drop at s)))
  pair_told e d k =
      let n : at + 4 + 1 ≡ at + 5 = omega arith in
      rw (pair_parts s at) (
      pair_like
      (view_pair p)
      (record { transport = num (take 4 (drop at s)); addr = text_of (take 1 (drop (at + 4) s)) (take 48 (drop (at + 5) s)) })
      (sym d ∙ e)
      (rw n at k))

  pub pair_longer : {t n : ℕ} → PairCell (take pair_width (drop at s)) → t ≡ num (take 4 (drop at s)) → t ≡ p.transport.0 → n ≡ get_or s (at + 4) 0 → (n ≡ p.addr.len → ⊥)
      → false ≡ same_pair (view_pair p) (pair_of (take pair_width (drop at s)))
  pair_longer c e d g h = pair_told e d (same_unlike (kept_padded p.addr) (pair_addr s at c).kept (λ q. h (g ∙ byte_here s (at + 4) ∙ sym q)))

  pub pair_beside : {r : Bool} {t n : ℕ} → PairCell (take pair_width (drop at s)) → t ≡ num (take 4 (drop at s)) → t ≡ p.transport.0 → n ≡ get_or s (at + 4) 0 → n ≡ p.addr.len
      → r ≡ same (take 48 p.addr.bytes) (take 48 (drop (at + 5) s)) → r ≡ same_pair (view_pair p) (pair_of (take pair_width (drop at s)))
  pair_beside c e d g h k =
      let n : at + 4 + 1 ≡ at + 5 = omega arith in
      pair_told e d (same_kept (kept_padded p.addr) (pair_addr s at c).kept (sym h ∙ g ∙ byte_here s (at + 4)) (k ∙ rw (n, take-take 48 48 (drop (at + 5) s) (lit≤ tt))))

-- ---- a pair as a record spells it

-- read by value: by what its address shows
pub spelt_shown : (u : Bytes) (from t n : ℕ) (a : Padded 48) → t ≡ num (take 4 (drop from u)) → n ≡ get_or u (from + 4) 0 → view a ≡ take n (drop (from + 5) u)
    → view_pair (record { transport = record { 0 = t }; addr = a }) ≡ pair_here (drop from u)
unfolding pair_here
spelt_shown u from t n a et en ea = rw (et, ea, get_or-drop from u 4 0, ← en, drop-drop 5 from u)

-- and by its bytes, which are an address
pub spelt_loaded : (u : Bytes) (from t n : ℕ) (b : Bytes) → PairIn u from → t ≡ num (take 4 (drop from u)) → n ≡ get_or u (from + 4) 0 → b ≡ take n (drop (from + 5) u) ++ replicate (48 - n) 0
    → (kept : Kept Any 0 48 n b) × (view_pair (record { transport = record { 0 = t }; addr = padded kept }) ≡ pair_here (drop from u))
spelt_loaded u from t n b p et en eb =
    let l : length (take n (drop (from + 5) u)) ≡ n = length-take-le n (drop (from + 5) u) (rw length-drop (omega (arith, p.room, en))) in
    let kept : Kept Any 0 48 n b = kept_filled (take n (drop (from + 5) u)) 48 n b l (omega (arith, p.small, en)) eb in
    let shows : take n b ≡ take n (drop (from + 5) u) = rw eb (take_at (take n (drop (from + 5) u)) (replicate (48 - n) 0) n l) in
    (kept, spelt_shown u from t n (padded kept) et en shows)

pair_cut : (n : ℕ) (s : Bytes) → 5 + n ≤ length s → take (5 + n) s ≡ take 4 s ++ (get_or s 4 0 ∷ take n (drop 5 s))
pair_cut n s h =
    let e : 5 + n ≡ 4 + (1 + n) = omega arith in
    rw (e, take-add 4 (1 + n) s, one-add n, drop-cons s 4 0 (omega arith))

-- beside a cell: one run of bytes decides
spelt_beside : (s c : Bytes) → length c ≡ pair_width → Text 48 (take 1 (drop 4 c)) (take 48 (drop 5 c)) → get_or s 4 0 ≤ 48 → 5 + get_or s 4 0 ≤ length s → Octets (take 4 s) → Octets (take 4 c)
    → same (take (5 + get_or s 4 0) s) (take (5 + get_or s 4 0) c) ≡ (eqb (num (take 4 s)) (num (take 4 c)) && same (take (get_or s 4 0) (drop 5 s)) (text_of (take 1 (drop 4 c)) (take 48 (drop 5 c))))
spelt_beside s c k x h l a b =
    rw (
      pair_cut (get_or s 4 0) s l,
      pair_cut (get_or s 4 0) c (omega arith),
      same_append (take 4 s) (take 4 c) (get_or s 4 0 ∷ take (get_or s 4 0) (drop 5 s)) (get_or c 4 0 ∷ take (get_or s 4 0) (drop 5 c)) fours,
      number_same 0 (take 4 s) (take 4 c) a b fours,
      ← byte_here c 4,
      take_all 48 (drop 5 c) (rw length-drop (omega arith)),
    ) (ap (λ (r : Bool). eqb (num (take 4 s)) (num (take 4 c)) && r) (go (eqb (get_or s 4 0) (get_or c 4 0)) refl))
  where
    fours : length (take 4 s) ≡ length (take 4 c)
    fours = length-take-le 4 s (omega arith) ∙ sym (length-take-le 4 c (omega arith))

    go : (r : Bool) → eqb (get_or s 4 0) (get_or c 4 0) ≡ r → (r && same (take (get_or s 4 0) (drop 5 s)) (take (get_or s 4 0) (drop 5 c))) ≡ same (take (get_or s 4 0) (drop 5 s)) (take (get_or c 4 0) (drop 5 c))
    go true q = rw (eqb-true (get_or s 4 0) (get_or c 4 0) q)
    go false q = sym (same_apart (take (get_or s 4 0) (drop 5 s)) (take (get_or c 4 0) (drop 5 c)) (λ e. eqb-false (get_or s 4 0) (get_or c 4 0) q (
        let m : get_or c 4 0 ≤ 48 = rw (← byte_here c 4) at x.kept.small in
        sym (length-take-le (get_or s 4 0) (drop 5 s) (rw length-drop (omega arith))) ∙ e ∙ length-take-le (get_or c 4 0) (drop 5 c) (rw length-drop (omega arith)))))

pub pair_spelt : {r : Bool} (s : Bytes) (at : ℕ) (u : Bytes) (from : ℕ) → PairCell (take pair_width (drop at s)) → get_or u (from + 4) 0 ≤ 48 → from + 5 + get_or u (from + 4) 0 ≤ length u
    → ((j : ℕ) → Fits w8 (get_or s j 0)) → ((j : ℕ) → Fits w8 (get_or u j 0))
    → r ≡ same (take (5 + get_or u (from + 4) 0) (drop from u)) (take (5 + get_or u (from + 4) 0) (drop at s)) → r ≡ same_pair (pair_here (drop from u)) (pair_of (take pair_width (drop at s)))
unfolding pair_here pair_of
pair_spelt s at u from c h l f g e =
    let n : get_or (drop from u) 4 0 ≡ get_or u (from + 4) 0 = get_or-drop from u 4 0 in
    e
    ∙ rw (← n, ← take-take (5 + get_or (drop from u) 4 0) pair_width (drop at s) (rw n (omega arith))) (
    spelt_beside (drop from u) (take pair_width (drop at s)) c.size c.addr (rw n h) (rw (n, length-drop) (omega arith)) (octets_run 4 from u g) (octets_take 4 (take pair_width (drop at s)) (octets_run pair_width at s f)))

-- ---- a message

pub message_parts : (s : Bytes) (at : ℕ) → message_of (take message_width (drop at s)) ≡ text_of (take 1 (drop at s)) (take 128 (drop (at + 1) s))
unfolding message_of
message_parts s at = rw (part_of 0 1 message_width (drop at s) (lit≤ tt), part_at message_width s at 1 128 (lit≤ tt))

pub message_text : (s : Bytes) (at : ℕ) → MessageCell (take message_width (drop at s)) → Text 128 (take 1 (drop at s)) (take 128 (drop (at + 1) s))
message_text s at c = rw (part_of 0 1 message_width (drop at s) (lit≤ tt), part_at message_width s at 1 128 (lit≤ tt)) at c.text

module _ (m : Padded 128) where
  pub message_cell_length : length (message_cell m) ≡ message_width
  unfolding message_cell
  message_cell_length = rw m.size

  pub message_cell_fit : MessageCell (message_cell m)
  unfolding message_cell
  message_cell_fit = record {
    size = message_cell_length;
    text = rw (take_all 128 m.bytes (omega (arith, m.size))) (record { size = refl; kept = kept_padded m });
  }

  pub message_cell_shows : message_of (message_cell m) ≡ view m
  unfolding message_of message_cell
  message_cell_shows = rw (take_all 128 m.bytes (omega (arith, m.size)))

message_whole : (c : Bytes) → length c ≡ message_width → c ≡ take 1 c ++ take 128 (drop 1 c)
message_whole c h = sym (take-append-drop 1 c) ∙ ap (λ (u : Bytes). take 1 c ++ u) (sym (take_all 128 (drop 1 c) (rw length-drop (omega arith))))

pub message_cell_same : {c d : Bytes} → MessageCell c → MessageCell d → message_of c ≡ message_of d → c ≡ d
unfolding message_of
message_cell_same {c} {d} a b e =
    let r = text_same a.text b.text e in
    message_whole c a.size ∙ rw (r.0, r.1) (sym (message_whole d b.size))

pub message_zeros : MessageCell (replicate message_width 0)
message_zeros = record { size = refl; text = record { size = refl; kept = record { small = lit≤ tt; size = refl; rest = refl; each = all_any (replicate 128 0) } } }

pub message_zeros_shows : message_of (replicate message_width 0) ≡ []
unfolding message_of
message_zeros_shows = refl

-- a message that was read at a place
pub message_loaded : (s : Bytes) (at n : ℕ) (b : Bytes) → MessageCell (take message_width (drop at s)) → n ≡ get_or s at 0 → b ≡ take 128 (drop (at + 1) s) ++ []
    → (kept : Kept Any 0 128 n b) × (view (padded kept) ≡ message_of (take message_width (drop at s)))
message_loaded s at n b c f g =
    let n-is : n ≡ byte_of (take 1 (drop at s)) = f ∙ byte_here s at in
    let b-is : b ≡ take 128 (drop (at + 1) s) = g ∙ append-nil (take 128 (drop (at + 1) s)) in
    let kept : Kept Any 0 128 n b = rw (n-is, b-is) (message_text s at c).kept in
    let shows : take n b ≡ message_of (take message_width (drop at s)) = rw (n-is, b-is) (sym (message_parts s at)) in
    (kept, shows)

-- a message that was written
pub message_written : (m : Padded 128) {xs : Bytes} {at : ℕ} {ys : Bytes} {r : ℕ} → Wrote xs at message_width ((m.len ∷ []) ++ take 128 m.bytes) ys r → Wrote xs at message_width (message_cell m) ys r
unfolding message_cell
message_written m w = rw (take_all 128 m.bytes (omega (arith, m.size))) at w

-- a message beside the one at a place: the lengths differ, and they do not
module _ (s : Bytes) (at : ℕ) (m : Padded 128) (c : MessageCell (take message_width (drop at s))) where
  pub message_longer : {n : ℕ} → n ≡ get_or s at 0 → (n ≡ m.len → ⊥) → false ≡ same (view m) (message_of (take message_width (drop at s)))
  message_longer g h = rw (message_parts s at) (same_unlike (kept_padded m) (message_text s at c).kept (λ q. h (g ∙ byte_here s at ∙ sym q)))

  pub message_beside : {r : Bool} {n : ℕ} → n ≡ get_or s at 0 → n ≡ m.len → r ≡ same (take 128 m.bytes) (take 128 (drop (at + 1) s)) → r ≡ same (view m) (message_of (take message_width (drop at s)))
  message_beside g h k = rw (message_parts s at) (
      same_kept (kept_padded m) (message_text s at c).kept (sym h ∙ g ∙ byte_here s at) (k ∙ rw (take-take 128 128 (drop (at + 1) s) (lit≤ tt))))
