-- A record's fields, read in a row to its end.
use Rattle.std.specs.Prelude.{◌≡◌, refl, ℕ, ◌≤◌, ◌<◌, length, drop, None, Option, Some, option_map, MatchOption}
use Rattle.std.proofs.Common.{◌∙◌, drop-cons}
use Rattle.std.proofs.Math.Seq.{drop-length}
use Rattle.rules.specs.Base.{Bytes}
use Rattle.rules.specs.Data.{Call}
use Rattle.rules.specs.Field.{Reader, give, fail}
use Rattle.rules.specs.Record.{kinds, finished}
use Rattle.input_cursor.specs.declared.Cursor.{Cursor}
use Rattle.input_cursor.specs.Took.{Took, Stands}
use Rattle.input_cursor.proofs.Field.{lost}
use Rattle.input_call.specs.Read.{Reads, kind_fields}

-- the last of a row
pub gave : {A : Type 0} {v : A} {c : Cursor} → Took (give v) c (Some v) c
gave = record { rec = refl; is = refl; lost = tt }

-- the same, in other words
pub told : {A : Type 0} {p : Reader A} {v w : A} {c c' : Cursor} → v ≡ w → Took p c (Some v) c' → Took p c (Some w) c'
told e t = record { rec = t.rec; is = t.is ∙ rw e; lost = tt }

module _ {A : Type 0} {p : Reader A} {at : ℕ} {s : Bytes} {c c' : Cursor} (st : Stands s at c) where
  pub whole_none : Took p c None c' → finished (p (drop at s)) ≡ None
  whole_none t = rw (← st.place, ← st.rec, t.is)

  module _ {v : A} (t : Took p c (Some v) c') where
    pub whole_over : c'.at < length c'.rec.now → finished (p (drop at s)) ≡ None
    whole_over h = rw (← st.place, ← st.rec, t.is, ← t.rec, drop-cons c'.rec.now c'.at 0 h)

    pub whole : c'.at ≡ length c'.rec.now → finished (p (drop at s)) ≡ Some v
    whole e = rw (← st.place, ← st.rec, t.is, ← t.rec, e, drop-length c'.rec.now)

module _ {p : Reader Call} {at : ℕ} {s : Bytes} {c c' : Cursor} (st : Stands s at c) where
  pub reads_none : Took p c None c' → Reads p at s None
  reads_none t = record { is = whole_none st t }

  module _ {v : Call} (t : Took p c (Some v) c') where
    pub reads_over : c'.at < length c'.rec.now → Reads p at s None
    reads_over h = record { is = whole_over st t h }

    pub reads_all : c'.at ≡ length c'.rec.now → Reads p at s (Some v)
    reads_all e = record { is = whole st t e }

-- no field: there is nothing to read but whether the record ends
pub reads_bare : {at : ℕ} {s : Bytes} {c : Cursor} (o : Option (Unit {0})) (v : Call) → Stands s at c
    → MatchOption o (c.at < length c.rec.now) (λ u. c.at ≡ length c.rec.now) → Reads (give v) at s (option_map (λ u. v) o)
reads_bare None v st h = reads_over st gave h
reads_bare (Some u) v st h = reads_all st gave h

-- a byte of no kind
pub no_kind : (k : ℕ) → 17 ≤ k → kind_fields k ≡ fail
unfolding kinds
no_kind k h = rw (lost kinds k h)
