-- The form of settings, the whole record of new, and what the entry of new makes of it.
use Rattle.std.specs.Prelude.{◌≡◌, refl, Bool, true, false, List, [], ◌∷◌, ℕ, ◌<◌, length, drop, if◌then◌else◌, None, Option, Some, Result, Ok, Err}
use Rattle.std.proofs.Common.{sym, ◌∙◌, arith}
use borrow.Author.Tests.{eq-eqb, ne_eqb}
use Rattle.rules.specs.Base.{option, Bytes}
use Rattle.rules.specs.Time.{Params, default, out_of_range}
use Rattle.rules.specs.Field.{Reader, give, fail, bind}
use Rattle.rules.specs.Record.{Begin, settings, form, begin_fields, begin, finished, read_new}
use Rattle.rules.specs.Entry.{Start, Made, Refused, new_table, new}
use Rattle.input_cursor.specs.declared.Cursor.{Cursor}
use Rattle.input_cursor.specs.Took.{Took, Stands, below}
use Rattle.input_cursor.proofs.Field.{bound, bound_none, coded}
use Rattle.input_call.proofs.Read.{gave, told, whole_none, whole_over, whole}
use Rattle.input_frame.specs.Frame.{heading, framed_is}
use Rattle.params.specs.View.{view_params}
use Rattle.refusal.specs.Code.{code}
use Rattle.refusal.proofs.Codes.{code_some}
use Rattle.input_new.specs.declared.New as news
use Rattle.input_new.specs.declared.NewRefusal.{NewRefusal}
use Rattle.input_new.specs.Begin.{new_number, begin_of, refusal_of, Begins, News}

-- ---- the form
abbrev pub forms : List (Reader Params)
forms = give default ∷ settings ∷ []

module _ {c c' : Cursor} where
  pub form_none : Took (below 2) c None c' → Took form c None c'
  unfolding form
  form_none t = bound_none _ (coded forms fail t)

  module _ {v : ℕ} (t : Took (below 2) c (Some v) c') where
    pub form_default : {p : Params} → v ≡ 0 → p ≡ default → Took form c (Some p) c'
    unfolding form
    form_default e d = bound _ (coded forms fail t) (rw e (told (sym d) gave))

    pub form_settings : {o : Option Params} {c″ : Cursor} → v < 2 → (v ≡ 0 → ⊥) → Took settings c' o c″ → Took form c o c″
    unfolding form
    form_settings h z u = let e : v ≡ 1 = omega (arith, z) in bound _ (coded forms fail t) (rw e u)

-- ---- the whole record
module _ {s : Bytes} where
  pub new_none : heading s ≡ None → Begins s None
  unfolding read_new bind
  new_none e = record { is = framed_is begin s ∙ rw e }

  module _ {k : ℕ} where
    pub new_other : {r : Bytes} → heading s ≡ Some (k, r) → (k ≡ 17 → ⊥) → Begins s None
    unfolding read_new bind begin
    new_other e z = record { is = framed_is begin s ∙ rw (e, ne_eqb k 17 z) }

    module _ {at : ℕ} {c : Cursor} (e : heading s ≡ Some (k, drop at s)) (q : k ≡ 17) (st : Stands s at c) where
      begun : read_new s ≡ finished (begin_fields (drop at s))
      unfolding read_new bind begin
      begun = framed_is begin s ∙ rw (e, eq-eqb k 17 q)

      module _ {c' : Cursor} where
        pub new_cut : Took begin_fields c None c' → Begins s None
        new_cut t = record { is = begun ∙ whole_none st t }

        pub new_over : {b : Begin} → Took begin_fields c (Some b) c' → c'.at < length c'.rec.now → Begins s None
        new_over t h = record { is = begun ∙ whole_over st t h }

        pub new_all : (now : ℕ) (n : news.New) → Took begin_fields c (Some (begin_of now n)) c' → c'.at ≡ length c'.rec.now → Begins s (Some n)
        new_all now n t h = record { is = (now, begun ∙ whole st t h) }

-- what the entry of new does with it
abbrev pub started : Result news.New NewRefusal → Start
started (Ok n) = Made (new_table n.me.0 n.first (view_params n.params))
started (Err r) = Refused (code (refusal_of r))

pub news_start : {s : Bytes} (r : Result news.New NewRefusal) → News s r → new s ≡ started r
unfolding new
news_start (Ok n) w = rw w.is.1 (go (out_of_range (view_params n.params)) refl)
  where
    go : (o : Bool) → out_of_range (view_params n.params) ≡ o
        → (if o then Refused 1 else Made (new_table n.me.0 n.first (view_params n.params))) ≡ Made (new_table n.me.0 n.first (view_params n.params))
    go true f = absurd (let z : ◌≡◌ {A = ℕ} 0 1 = w.number ∙ rw (w.is.1, f) in omega arith)
    go false f = refl
news_start {s} (Err r) w = rw w.number (go (read_new s) refl)
  where
    go : (o : Option Begin) → read_new s ≡ o → option o (Refused 3) (λ b. if out_of_range b.params then Refused 1 else Made (new_table b.me b.first b.params)) ≡ Refused (new_number o)
    go None e = refl
    go (Some b) e = ranged (out_of_range b.params) refl
      where
        ranged : (o : Bool) → out_of_range b.params ≡ o → (if o then Refused 1 else Made (new_table b.me b.first b.params)) ≡ Refused (if o then 1 else 0)
        ranged true f = refl
        ranged false f = absurd (let z : code (refusal_of r) ≡ 0 = w.number ∙ rw (e, f) in omega (arith, z, code_some (refusal_of r)))
