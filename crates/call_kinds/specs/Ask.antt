-- What is asked of the step of a kind, and what it answers: the record's fields are read, and the call that they say is settled.
use Rattle.std.specs.Prelude.{◌≡◌, refl, ℕ, ◌≤◌, length, drop, None, Option, Some}
use Rattle.std.proofs.Common.{sym, ◌∙◌, subst, arith}
use Rattle.std.proofs.Math.Path.{ap}
use Rattle.rules.specs.Base.{option, Bytes}
use Rattle.rules.specs.Data.{Call, Table, Result}
use Rattle.rules.specs.Field.{Reader, fail}
use Rattle.rules.specs.Record.{finished}
use Rattle.rules.specs.Settle.{refuse, step}
use Rattle.input_call.specs.Read.{Reads, kind_fields}
use Rattle.table_layout.specs.View.{view_table}
use Rattle.call_contract.specs.Did.{Space, Ruled, ruled_is, ruled_refused, space_result}
use Rattle.call_contract.specs.Sound.{Ready}

-- 3, or the step of the call that the fields from `at` on say
unfoldable pub answered : Reader Call → ℕ → ℕ → Bytes → Table → Result
answered fields now at s x = option (finished (fields (drop at s))) (refuse 3 x) λ c. step now c x

pub record Asked (fields : Reader Call) (now at : ℕ) (s t o : Bytes) : Type 0 where
  pub ready : Ready t
  pub start : at ≤ length s
  pub space : Space o 0 (answered fields now at s (view_table t)).step.outs

-- the table t', the buffer o', the number n and the place r after it
pub record Answers (fields : Reader Call) (now at : ℕ) (s t o t' o' : Bytes) (n r : ℕ) : Type 0 where
  pub ruled : Ruled t o 0 t' o' n r (answered fields now at s (view_table t))

module _ {fields : Reader Call} {now at : ℕ} {s t o : Bytes} (a : Asked fields now at s t o) {x : Option Call} (r : Reads fields at s x) where
  abbrev settled : Option Call → Result
  settled x = option x (refuse 3 (view_table t)) λ c. step now c (view_table t)

  -- the record was no call's
  pub unread : x ≡ None → Answers fields now at s t o t o 3 0
  unfolding answered
  unread q = record { ruled = ruled_is (ruled_refused 3 a.ready.fit (omega arith)) (sym (ap settled (r.is ∙ q))) }

  module _ {c : Call} (q : x ≡ Some c) where
    read : answered fields now at s (view_table t) ≡ step now c (view_table t)
    unfolding answered
    read = ap settled (r.is ∙ q)

    pub read_space : Space o 0 (step now c (view_table t)).step.outs
    read_space = space_result a.space read

    pub read_done : {t' o' : Bytes} {n k : ℕ} → Ruled t o 0 t' o' n k (step now c (view_table t)) → Answers fields now at s t o t' o' n k
    read_done d = record { ruled = ruled_is d (sym read) }

-- ---- no kind of call
pub no_kind_answers : (k : ℕ) {now at : ℕ} {s t o : Bytes} → kind_fields k ≡ fail → Asked (kind_fields k) now at s t o → Answers (kind_fields k) now at s t o t o 3 0
no_kind_answers k {now} {at} {s} {t} {o} e a =
    let b : Asked fail now at s t o = subst (λ (f : Reader Call). Asked f now at s t o) e a in
    let r : Reads fail at s None = record { is = refl } in
    subst (λ (f : Reader Call). Answers f now at s t o t o 3 0) (sym e) (unread b r refl)
