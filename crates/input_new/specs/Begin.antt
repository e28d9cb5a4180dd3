-- The record of new: what its reader answers.
use Rattle.std.specs.Prelude.{◌≡◌, ℕ, if◌then◌else◌, Option, Some, Result, MatchOption, None, Ok, Err}
use Rattle.rules.specs.Base.{option, Bytes}
use Rattle.rules.specs.Time.{out_of_range}
use Rattle.rules.specs.Record.{Begin, read_new}
use Rattle.params.specs.View.{view_params}
use Rattle.refusal.specs.declared.Refusal.{Refusal}
use Rattle.refusal.specs.declared.Refusal.TheVariants as refusal
use Rattle.refusal.specs.Code.{code}
use Rattle.input_new.specs.declared.New as news
use Rattle.input_new.specs.declared.NewRefusal.{NewRefusal}
use Rattle.input_new.specs.declared.NewRefusal.TheVariants as refused

-- 3 where it is no record of new, 1 where its settings are out of range
abbrev pub new_number : Option Begin → ℕ
new_number o = option o 3 λ b. if out_of_range b.params then 1 else 0

abbrev pub begin_of : ℕ → news.New → Begin
begin_of now n = record { now = now; me = n.me.0; first = n.first; params = view_params n.params }

-- the new that the bytes say, at some clock reading
pub record Begins (s : Bytes) (o : Option news.New) : Type 0 where
  pub is : MatchOption o (read_new s ≡ None) (λ n. (now : ℕ) × (read_new s ≡ Some (begin_of now n)))

abbrev pub refusal_of : NewRefusal → Refusal
refusal_of refused.Record = refusal.Record
refusal_of (refused.Settings n) = refusal.Settings

-- the number of an answer, 0 where it is no refusal
abbrev pub answer_number : Result news.New NewRefusal → ℕ
answer_number (Ok n) = 0
answer_number (Err r) = code (refusal_of r)

-- the new that was read, if it was; with a refusal of its settings too
abbrev pub new_of : Result news.New NewRefusal → Option news.New
new_of (Ok n) = Some n
new_of (Err refused.Record) = None
new_of (Err (refused.Settings n)) = Some n

pub record News (s : Bytes) (r : Result news.New NewRefusal) : Type 0 where
  pub is : MatchOption (new_of r) (read_new s ≡ None) (λ n. (now : ℕ) × (read_new s ≡ Some (begin_of now n)))
  pub number : answer_number r ≡ new_number (read_new s)
