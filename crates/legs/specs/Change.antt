-- What a change of some cells of one entry makes of the region: a resend that is counted, an answer marked sent, or unsent.
use Rattle.std.specs.Prelude.{◌≡◌, Bool, true, false, ℕ, ◌+◌, ◌*◌, ◌≤◌, ◌<◌, get_or, if◌then◌else◌, Option}
use Rattle.std.proofs.Math.Path.{refl, sym, ap}
use Rattle.std.proofs.Common.{◌∙◌, subst, lit≤, lit<, Fits}
use mathlib.Core.List.{List, [], ◌∷◌, ◌++◌}
use native.Mathlib.Omega.{arith}
use Rattle.std.proofs.lemmas.Bool.{eqb-false}
use Rattle.std.proofs.Math.ListN.{length, set}
use Rattle.std.specs.Int.{w32, w64}
use Rattle.rules.specs.Base.{Bytes}
use Rattle.rules.specs.Field.{digits}
use Rattle.rules.specs.Data.{Kind, Leg}
use Rattle.rules.specs.Legs.{sent_kind, unsent_kind, mark_sent, mark_unsent, with_kind}
use Rattle.lib_laws.specs.Shift.{fit_at, shown, replaced}
use Rattle.lib_laws.specs.Splice.{splice, splice_splice, length_splice, length_digits, Wrote}
use Rattle.lib_laws.specs.Round.{more_digits}
use Rattle.lib_laws.specs.Part.{get_d_past}
use Rattle.lib_laws.specs.Cell.{byte_of, flag_of, or_blank, Code, flag_cell, number_cells, optional_number, number_shows}
use Rattle.lib_laws.specs.Chunk.{chunks, chunk_size, chunks_splice}
use Rattle.lib_laws.specs.Fields.{cuts, cuts_set, sum}
use Rattle.node_addr.specs.Alike.{byte_here}
use Rattle.legs_entry.specs.View.{cell, leg_from, leg_of, FitCells, FitLegCell, view_legs, FitLegs, leg_count, no_leg, leg_at}
use Rattle.legs_entry.specs.Entry.{cells_here}
use Rattle.legs_entry.specs.Start.{again}
use Rattle.legs_entry.specs.Layout.{at_answer, at_answer_sent, at_has_next, at_leg_count, at_replaces, leg_cap, leg_width, leg_ws, at_next_resend, at_sent}

-- the bytes of the i-th leg
abbrev pub entry_at : Bytes → ℕ → Bytes
entry_at s i = get_or (chunks leg_width leg_cap s) i []

-- bytes put into the i-th entry, which is to show as v
pub changed_here : {s l bs : Bytes} {n q : ℕ} (i o : ℕ) (v : Leg) → Wrote s (i * leg_width + o) n bs l q → FitLegs s → i < leg_count s → o + n ≤ leg_width
    → FitLegCell (splice (entry_at s i) o bs) → leg_of (splice (entry_at s i) o bs) ≡ v → FitLegs l × (view_legs l ≡ set (view_legs s) i v)
changed_here {s} {l} {bs} i o v a f h ob keeps shows =
    let b : length bs ≡ _ = a.size in
    let size : length (splice s (i * leg_width + o) bs) ≡ length s = length_splice s (i * leg_width + o) bs (omega arith) in
    let y = get_d_past at_leg_count s (i * leg_width + o) bs (omega arith) (omega arith) in
    let c = chunks_splice leg_width leg_cap s i o bs (omega arith) (omega arith) (omega arith) in
    let k = replaced leg_of i (splice (entry_at s i) o bs) f.kept keeps h in
    rw a.is (record { size = omega arith; kept = rw (y, c) k.0 }, rw (y, c, ← shows) k.1)

module _ (s : Bytes) (i : ℕ) (f : FitLegs s) (h : i < leg_count s) where
  entry_size : length (entry_at s i) ≡ leg_width
  entry_size = chunk_size leg_width leg_cap s i [] (omega arith) (omega arith)

  entry_fit : FitLegCell (entry_at s i)
  entry_fit = fit_at leg_of i [] f.kept h

  entry_shows : leg_of (entry_at s i) ≡ leg_at s i
  entry_shows = shown leg_of i [] no_leg f.kept h

-- ---- sent: the mark is the answer's flag, so that a dial keeps none
low_zero : {s : Bytes} → Code 2 s → flag_of s ≡ false → byte_of s ≡ 0
low_zero {s} c e = go (byte_of s) c.low (eqb-false (byte_of s) 1 e)
  where
    go : (x : ℕ) → x < 2 → (x ≡ 1 → ⊥) → x ≡ 0
    go x l n = omega (arith, n)

sent_kind_lem : (x : Bool) (m d : Bytes) (p : ℕ) (r q : Bool)
    → (if x then Kind.Answer (record { msg2 = m; ephemeral = d; epoch = p; replaces = r; sent = x }) else Kind.Dial)
    ≡ sent_kind (if x then Kind.Answer (record { msg2 = m; ephemeral = d; epoch = p; replaces = r; sent = q }) else Kind.Dial)
sent_kind_lem true m d p r q = refl
sent_kind_lem false m d p r q = refl

unsent_kind_lem : (x : Bool) (m d : Bytes) (p : ℕ) (r q : Bool)
    → (if x then Kind.Answer (record { msg2 = m; ephemeral = d; epoch = p; replaces = false; sent = q }) else Kind.Dial)
    ≡ unsent_kind (if x then Kind.Answer (record { msg2 = m; ephemeral = d; epoch = p; replaces = r; sent = q }) else Kind.Dial)
unsent_kind_lem true m d p r q = refl
unsent_kind_lem false m d p r q = refl

module _ (c : Bytes) (z : length c ≡ leg_width) (f : FitLegCell c) where
  sent_cuts : (b : ℕ) → cuts 0 0 leg_ws (splice c at_answer_sent (b ∷ [])) ≡ set (cuts 0 0 leg_ws c) 9 (b ∷ [])
  unfolding sum
  sent_cuts b = cuts_set 0 0 leg_ws c 9 at_answer_sent (b ∷ []) (lit< tt) (omega arith) refl refl

  sent_fits : (b : ℕ) → b ≡ byte_of (cell (cuts 0 0 leg_ws c) 6) → FitLegCell (splice c at_answer_sent (b ∷ []))
  sent_fits b e = subst FitCells (sym (sent_cuts b)) (record {
    next = f.next;
    answer = f.answer;
    peer = f.peer;
    answer_sent = record { size = refl; low = rw e f.answer.low };
    replaces = f.replaces;
    msg1 = f.msg1;
    msg2 = f.msg2;
    dial = λ q.
        let k = f.dial q in
        record { answer_sent = rw (e, low_zero f.answer q); replaces = k.replaces; epoch = k.epoch; digest = k.digest; len2 = k.len2; msg2 = k.msg2 };
  })

  sent_shows : (b : ℕ) → b ≡ byte_of (cell (cuts 0 0 leg_ws c) 6) → leg_of (splice c at_answer_sent (b ∷ [])) ≡ mark_sent (leg_of c)
  sent_shows b e =
      ap leg_from (sent_cuts b) ∙ rw e (ap (λ (k : Kind). with_kind k (leg_of c)) (sent_kind_lem (flag_of (cell (cuts 0 0 leg_ws c) 6)) _ _ _ _ _))

  -- ---- unsent: the answer replaces nothing
  unsent_cuts : cuts 0 0 leg_ws (splice c at_replaces (0 ∷ [])) ≡ set (cuts 0 0 leg_ws c) 10 (0 ∷ [])
  unfolding sum
  unsent_cuts = cuts_set 0 0 leg_ws c 10 at_replaces (0 ∷ []) (lit< tt) (omega arith) refl refl

  unsent_fits : FitLegCell (splice c at_replaces (0 ∷ []))
  unsent_fits = subst FitCells (sym unsent_cuts) (record {
    next = f.next;
    answer = f.answer;
    peer = f.peer;
    answer_sent = f.answer_sent;
    replaces = record { size = refl; low = lit< tt };
    msg1 = f.msg1;
    msg2 = f.msg2;
    dial = λ q.
        let k = f.dial q in
        record { answer_sent = k.answer_sent; replaces = refl; epoch = k.epoch; digest = k.digest; len2 = k.len2; msg2 = k.msg2 };
  })

  unsent_shows : leg_of (splice c at_replaces (0 ∷ [])) ≡ mark_unsent (leg_of c)
  unsent_shows = ap leg_from unsent_cuts ∙ ap (λ (k : Kind). with_kind k (leg_of c)) (unsent_kind_lem (flag_of (cell (cuts 0 0 leg_ws c) 6)) _ _ _ _ _)

  -- ---- the next resend, and how many were sent
  module _ (o : Option ℕ) (n : ℕ) where
    again_cuts : cuts 0 0 leg_ws (splice c at_has_next (number_cells o ++ digits 4 n)) ≡ set (set (set (cuts 0 0 leg_ws c) 2 (flag_cell o)) 3 (digits 8 (or_blank 0 o))) 4 (digits 4 n)
    unfolding sum
    again_cuts =
        let v : ℕ = or_blank 0 o in
        let l8 : length (digits 8 v) ≡ 8 = length_digits 8 v in
        let l4 : length (digits 4 n) ≡ 4 = length_digits 4 n in
        let z1 : length (splice c at_has_next (flag_cell o)) ≡ leg_width = length_splice c at_has_next (flag_cell o) (omega arith) ∙ z in
        let z2 : length (splice (splice c at_has_next (flag_cell o)) at_next_resend (digits 8 v)) ≡ leg_width = length_splice (splice c at_has_next (flag_cell o)) at_next_resend (digits 8 v) (omega arith) ∙ z1 in
        let e1 : splice c at_has_next (number_cells o) ≡ splice (splice c at_has_next (flag_cell o)) at_next_resend (digits 8 v) = sym (splice_splice c at_has_next (flag_cell o) (digits 8 v) (omega arith)) in
        let l9 : length (number_cells o) ≡ 9 = omega arith in
        let e2 : splice c at_has_next (number_cells o ++ digits 4 n) ≡ splice (splice (splice c at_has_next (flag_cell o)) at_next_resend (digits 8 v)) at_sent (digits 4 n) =
        sym (splice_splice c at_has_next (number_cells o) (digits 4 n) (omega arith)) ∙ rw (l9, e1) in
        ap (cuts 0 0 leg_ws) e2
        ∙ cuts_set 0 0 leg_ws (splice (splice c at_has_next (flag_cell o)) at_next_resend (digits 8 v)) 4 at_sent (digits 4 n) (lit< tt) (omega arith) l4 refl
        ∙ ap (λ (x : List Bytes). set x 4 (digits 4 n)) (cuts_set 0 0 leg_ws (splice c at_has_next (flag_cell o)) 3 at_next_resend (digits 8 v) (lit< tt) (omega arith) l8 refl)
        ∙ ap (λ (x : List Bytes). set (set x 3 (digits 8 v)) 4 (digits 4 n)) (cuts_set 0 0 leg_ws c 2 at_has_next (flag_cell o) (lit< tt) (omega arith) refl refl)

    again_fits : FitLegCell (splice c at_has_next (number_cells o ++ digits 4 n))
    again_fits = subst FitCells (sym again_cuts) (record {
      next = optional_number o;
      answer = f.answer;
      peer = f.peer;
      answer_sent = f.answer_sent;
      replaces = f.replaces;
      msg1 = f.msg1;
      msg2 = f.msg2;
      dial = λ e.
          let k = f.dial e in
          record { answer_sent = k.answer_sent; replaces = k.replaces; epoch = k.epoch; digest = k.digest; len2 = k.len2; msg2 = k.msg2 };
    })

    again_shows : Fits w64 (or_blank 0 o) → Fits w32 n → leg_of (splice c at_has_next (number_cells o ++ digits 4 n)) ≡ again o n (leg_of c)
    again_shows p q = ap leg_from again_cuts ∙ rw (number_shows o p.fits, more_digits 4 n q.fits)

-- ---- the same of the region
module _ {s l : Bytes} {q : ℕ} (i : ℕ) where
  pub marked_sent : (b : ℕ) → Wrote s (i * leg_width + at_answer_sent) 1 (b ∷ []) l q → FitLegs s → i < leg_count s → b ≡ get_or s (i * leg_width + at_answer) 0
      → FitLegs l × (view_legs l ≡ set (view_legs s) i (mark_sent (leg_at s i)))
  marked_sent b a f h e =
      let z = entry_size s i f h in
      let k = entry_fit s i f h in
      let x : b ≡ byte_of (cell (cuts 0 0 leg_ws (entry_at s i)) 6) = e ∙ byte_here s (i * leg_width + at_answer) ∙ ap (λ (fs : List Bytes). byte_of (cell fs 6)) (cells_here s i f h) in
      changed_here i at_answer_sent (mark_sent (leg_at s i)) a f h (lit≤ tt) (sent_fits (entry_at s i) z k b x) (sent_shows (entry_at s i) z k b x ∙ ap mark_sent (entry_shows s i f h))

  pub marked_unsent : Wrote s (i * leg_width + at_replaces) 1 (0 ∷ []) l q → FitLegs s → i < leg_count s → FitLegs l × (view_legs l ≡ set (view_legs s) i (mark_unsent (leg_at s i)))
  marked_unsent a f h =
      let z = entry_size s i f h in
      let k = entry_fit s i f h in
      changed_here i at_replaces (mark_unsent (leg_at s i)) a f h (lit≤ tt) (unsent_fits (entry_at s i) z k) (unsent_shows (entry_at s i) z k ∙ ap mark_unsent (entry_shows s i f h))

  pub set_again : (o : Option ℕ) (n : ℕ) → Wrote s (i * leg_width + at_has_next) 13 (number_cells o ++ digits 4 n) l q → FitLegs s → i < leg_count s
      → Fits w64 (or_blank 0 o) → Fits w32 n → FitLegs l × (view_legs l ≡ set (view_legs s) i (again o n (leg_at s i)))
  set_again o n a f h x y =
      let z = entry_size s i f h in
      let k = entry_fit s i f h in
      changed_here i at_has_next (again o n (leg_at s i)) a f h (lit≤ tt) (again_fits (entry_at s i) z k o n)
      (again_shows (entry_at s i) z k o n x y ∙ ap (again o n) (entry_shows s i f h))
