-- The numbers that new and call answer, and that a refusal leaves the table as it was. Each number occurs: Rows, number_1 to numbers_7.
use mathlib.Core.Path.{◌≡◌, refl}
use mathlib.Core.Bool.{Bool, true, false, not, ◌&&◌, ◌||◌}
use mathlib.Core.Logic.{◌⊎◌, inl, inr}
use mathlib.Core.List.{List, [], ◌∷◌}
use Prim.Native.Nat.{ℕ, ◌-◌, ◌^◌}
use lib.Dec.{eqb, leb, ltb}
use lib.ListN.{length}
use Rattle.rules.specs.Base.{Bytes, same, any}
use Rattle.rules.specs.Time.{out_of_range}
use Rattle.rules.specs.Data.{Table, Result, Hello, Call, Source}
use Rattle.rules.specs.Settle.{refuse, held_at, places, numbering, entering, stored, denied, asked, admitted, admit, msg1, crowded, add_path, step}
use Rattle.rules.specs.Record.{read_call, read_new}
use Rattle.rules.specs.Entry.{Start, Made, Refused, new_table, new, call}
use Rattle.rules.proofs.Lists.{if_by, option_by}

abbrev pub OneOf : List ℕ → ℕ → Type 0
OneOf ns n = any (eqb n) ns ≡ true

pub one_more : (m : ℕ) (ns : List ℕ) (n : ℕ) → OneOf ns n → OneOf (m ∷ ns) n
one_more m ns n h = go (eqb n m)
  where
    go : (b : Bool) → (b || any (eqb n) ns) ≡ true
    go true = refl
    go false = h

-- the refusals of a call
abbrev pub refusals : List ℕ
refusals = 2 ∷ 3 ∷ 4 ∷ 5 ∷ 6 ∷ 7 ∷ []

-- not refused, or refused by one of them: then nothing is written and nothing changed
abbrev pub Numbered : Table → Result → Type 0
Numbered t d = (d.number ≡ 0) ⊎ ((n : ℕ) × OneOf refusals n × (d ≡ refuse n t))

refused : {t : Table} (n : ℕ) → OneOf refusals n → Numbered t (refuse n t)
refused n h = inr (n, h, refl)

module _ (now : ℕ) (t : Table) where
  by_numbering : (d : Result) → Numbered t d → Numbered t (numbering t d)
  unfolding numbering
  by_numbering d x = if_by (Numbered t) (eqb t.next (2 ^ 64 - 1)) (λ e. refused 4 refl) (λ e. x)

  by_entering : (p : Bytes) (d : Result) → Numbered t d → Numbered t (entering p t d)
  unfolding entering
  by_entering p d x = if_by (Numbered t) (leb 32 (length t.links)) (λ e. refused 5 refl) (λ e. if_by (Numbered t) (not (any (same p) (places t)) && leb 32 (length (places t))) (λ z. refused 6 refl) (λ z. x))

  by_admit : (s : Source) (x : Hello) → Numbered t (admit now s x t)
  unfolding admit admitted
  by_admit s x = option_by (Numbered t) (denied now (asked s (held_at x.peer t)) x t)
      (λ e. option_by (Numbered t) (held_at x.peer t) (λ z. by_entering x.peer _ (inl refl)) (λ h z. inl refl)) (λ why e. inl refl)

  by_step : (c : Call) → Numbered t (step now c t)
  unfolding step msg1 add_path
  by_step (Call.Dial p to m l) = by_numbering _ (by_entering p _ (inl refl))
  by_step (Call.Msg1 x f) = by_numbering _ (option_by (Numbered t) (stored x.from x.bytes t)
      (λ e. option_by (Numbered t) (held_at x.peer t) (λ z. by_admit Source.NotHeld x)
      (λ h z. if_by (Numbered t) (not (eqb h.epoch x.epoch)) (λ q. by_admit Source.Restart x) (λ q. inl refl))) (λ o e. inl refl))
  by_step (Call.Replacement x) = by_numbering _ (by_admit Source.Replacement x)
  by_step (Call.Abandon n) = inl refl
  by_step (Call.Arrived p b) = inl refl
  by_step (Call.Sent n) = inl refl
  by_step (Call.Unsent n) = inl refl
  by_step (Call.Msg2 n e p) = inl refl
  by_step (Call.Restarted p e) = inl refl
  by_step (Call.Heard p f) = inl refl
  by_step (Call.Remove p w) = inl refl
  by_step Call.Poll = inl refl
  by_step Call.Close = inl refl
  by_step (Call.Path n p v) = if_by (Numbered t) (crowded n p t) (λ e. refused 7 refl) (λ e. inl refl)
  by_step (Call.Release n p f) = inl refl
  by_step Call.Wake = inl refl

-- call: 0, or one of 2 to 7 with the table as it was and nothing written
pub call_number : (s : Bytes) (buffer : ℕ) (t : Table) → Numbered t (call s buffer t)
unfolding call
call_number s buffer t = if_by (Numbered t) (ltb buffer 10_240) (λ e. refused 2 refl)
    (λ e. option_by (Numbered t) (read_call s) (λ z. refused 3 refl) (λ c z. by_step c.now t c.call))

-- new: a table, or 1 or 3
abbrev pub NewNumbered : Start → Type 0
NewNumbered x = ((t : Table) × (x ≡ Made t)) ⊎ ((n : ℕ) × OneOf (1 ∷ 3 ∷ []) n × (x ≡ Refused n))

pub new_number : (s : Bytes) → NewNumbered (new s)
unfolding new
new_number s = option_by NewNumbered (read_new s) (λ e. inr (3, refl, refl))
    (λ b e. if_by NewNumbered (out_of_range b.params) (λ z. inr (1, refl, refl)) (λ z. inl (new_table b.me b.first b.params, refl)))
