-- What the code finds at the start of a record.
use Rattle.std.specs.Prelude.{◌≡◌, refl, Bool, true, false, ◌&&◌, ℕ, ◌+◌, ◌≤◌, ◌<◌, eqb, leb, length, take, drop, get_or, if◌then◌else◌, None, Some}
use Rattle.std.proofs.Common.{◌∙◌, arith, drop-drop, length-drop}
use borrow.Author.Tests.{leb-true, leb-false, eq-eqb, ne_eqb}
use Rattle.rules.specs.Base.{Bytes}
use Rattle.rules.specs.Field.{give, fail, bind, clock, more}
use Rattle.lib_laws.specs.Parse.{number_yes, number_no, byte_is}
use Rattle.input_cursor.specs.declared.Cursor.{Cursor}
use Rattle.input_cursor.specs.Took.{Took, Stands}
use Rattle.input_frame.specs.Frame.{heading, header}

module _ (s : Bytes) where
  pub heading_short : length s < 4 → heading s ≡ None
  unfolding heading bind
  heading_short h = go (leb 2 (length s)) (leb 3 (length s)) refl refl
    where
      go : (a b : Bool) → leb 2 (length s) ≡ a → leb 3 (length s) ≡ b → heading s ≡ None
      go false b e f = rw (number_no 2 s (leb-false 2 (length s) e))
      go true false e f = rw (number_yes 2 s (leb-true 2 (length s) e), number_no 1 (drop 2 s) (rw length-drop (omega (arith, leb-false 3 (length s) f))))
      go true true e f = rw (
        number_yes 2 s (leb-true 2 (length s) e),
        number_yes 1 (drop 2 s) (rw length-drop (omega (arith, leb-true 3 (length s) f))),
        drop-drop 1 2 s,
        number_no 1 (drop 3 s) (rw length-drop (omega arith)),
      )

  module _ {n : ℕ} (h : 4 ≤ length s) (e : n ≡ more 0 (take 2 s)) where
    begun : heading s ≡ (if eqb (n + 2) (length s) && eqb (get_or s 2 0) 1 then give (get_or s 3 0) else fail) (drop 4 s)
    unfolding heading bind
    begun = rw (
      number_yes 2 s (omega arith),
      number_yes 1 (drop 2 s) (rw length-drop (omega arith)),
      byte_is s 2 (omega arith),
      drop-drop 1 2 s,
      number_yes 1 (drop 3 s) (rw length-drop (omega arith)),
      byte_is s 3 (omega arith),
      drop-drop 1 3 s,
      e,
    )

    pub heading_length : (n + 2 ≡ length s → ⊥) → heading s ≡ None
    heading_length q = begun ∙ rw (ne_eqb (n + 2) (length s) q)

    pub heading_version : n + 2 ≡ length s → (get_or s 2 0 ≡ 1 → ⊥) → heading s ≡ None
    heading_version q v = begun ∙ rw (eq-eqb (n + 2) (length s) q, ne_eqb (get_or s 2 0) 1 v)

    pub heading_read : n + 2 ≡ length s → get_or s 2 0 ≡ 1 → heading s ≡ Some (get_or s 3 0, drop 4 s)
    heading_read q v = begun ∙ rw (eq-eqb (n + 2) (length s) q, eq-eqb (get_or s 2 0) 1 v)

-- the clock behind it
module _ (s : Bytes) where
  pub header_none : heading s ≡ None → header s ≡ None
  unfolding header bind
  header_none e = rw e

  module _ {k at : ℕ} {c c' : Cursor} (e : heading s ≡ Some (k, drop at s)) (st : Stands s at c) where
    pub header_cut : Took clock c None c' → header s ≡ None
    unfolding header bind
    header_cut t = rw (e, ← st.place, ← st.rec, t.is)

    pub header_read : {now : ℕ} → Took clock c (Some now) c' → header s ≡ Some ((k, now), drop c'.at s)
    unfolding header bind
    header_read t = rw (e, ← st.place, ← st.rec, t.is)
