-- What is asked of a step and what it answers, by another name of its kind; and the bytes that are no kind.
use Rattle.std.specs.Prelude.{◌≡◌, ℕ, ◌<◌, ◌⊎◌, Ok, Err, Result}
use Rattle.std.proofs.Common.{sym, subst, arith, inl, inr}
use Rattle.rules.specs.Base.{Bytes}
use Rattle.rules.specs.Field.{fail}
use Rattle.rules.specs.Record.{kinds}
use Rattle.input_call.specs.Read.{kind_fields}
use Rattle.input_call.proofs.Read.{no_kind}
use Rattle.input_frame.specs.Kind.{code_of, Decodes}
use Rattle.input_frame.specs.declared.kind.Kind.{Kind}
use Rattle.input_frame.specs.declared.kind.UnknownKind.{UnknownKind}
use Rattle.call_kinds.specs.Ask.{Asked, Answers}

module _ {now at : ℕ} {s t o : Bytes} where
  pub asked_as : {k n : ℕ} → k ≡ n → Asked (kind_fields k) now at s t o → Asked (kind_fields n) now at s t o
  asked_as e a = subst (λ (k : ℕ). Asked (kind_fields k) now at s t o) e a

  pub answers_as : {k n : ℕ} {t' o' : Bytes} {m r : ℕ} → n ≡ k → Answers (kind_fields k) now at s t o t' o' m r → Answers (kind_fields n) now at s t o t' o' m r
  answers_as {t' = t'} {o'} {m} {r} e a = subst (λ (k : ℕ). Answers (kind_fields k) now at s t o t' o' m r) (sym e) a

pub decoded : {n : ℕ} {r : Result Kind UnknownKind} {k : Kind} → Decodes n r → r ≡ Ok k → n ≡ code_of k
decoded d e = sym (rw e at d)

pub undecoded : (n : ℕ) {r : Result Kind UnknownKind} {e : UnknownKind} → Decodes n r → r ≡ Err e → kind_fields n ≡ fail
unfolding kinds
undecoded n d q = go (rw q at d).1
  where
    go : (n ≡ 0) ⊎ (17 < n) → kind_fields n ≡ fail
    go (inl z) = rw z
    go (inr h) = no_kind n (omega arith)
