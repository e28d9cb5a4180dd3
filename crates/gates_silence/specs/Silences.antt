-- An ending counted in a silence, and what the tests of the code say of the rules that count it.
use Rattle.std.specs.Prelude.{◌≡◌, refl, true, false, ℕ, if◌then◌else◌, None, Option, Some, unwrap_or}
use borrow.Author.Tests.{eq-eqb, ne_eqb}
use mathlib.Core.List.{[]}
use Rattle.rules.specs.Base.{option, or_else, any, same, Bytes}
use Rattle.rules.specs.Time.{Params}
use Rattle.rules.specs.Data as rule
use Rattle.rules.specs.Gates.{differ, expired, counting, silenced}

abbrev pub new_silence : ℕ → ℕ → rule.Silence
new_silence epoch now = record { epoch = Some epoch; count = 0; last = now; until = None; counted = [] }

abbrev pub ended_in : Params → ℕ → Option Bytes → rule.Silence → rule.Silence
ended_in c now setup r = if option setup false (λ e. any (same e) r.counted) then r else silenced c now setup r

-- ---- the record that an ending is counted in: it goes on unless it expired, or is of another epoch
pub count_quiet : (c : Params) (now e : ℕ) → new_silence e now ≡ counting c now (Some e) None
unfolding counting
count_quiet c now e = refl

module _ (c : Params) (now e : ℕ) (r : rule.Silence) where
  pub count_same : expired c now r ≡ false → unwrap_or r.epoch e ≡ e → record { epoch = Some e; count = r.count; last = r.last; until = r.until; counted = r.counted } ≡ counting c now (Some e) (Some r)
  unfolding counting
  count_same p q = rw p (go r.epoch q)
    where
      go : (o : Option ℕ) → unwrap_or o e ≡ e → record { epoch = Some e; count = r.count; last = r.last; until = r.until; counted = r.counted }
          ≡ (if differ o (Some e) then new_silence e now else record { epoch = or_else o (Some e); count = r.count; last = r.last; until = r.until; counted = r.counted })
      go None q = refl
      go (Some a) q = rw (eq-eqb a e q, q)

  pub count_expired : expired c now r ≡ true → new_silence e now ≡ counting c now (Some e) (Some r)
  unfolding counting
  count_expired p = rw p

  pub count_other : expired c now r ≡ false → (unwrap_or r.epoch e ≡ e → ⊥) → new_silence e now ≡ counting c now (Some e) (Some r)
  unfolding counting
  count_other p q = rw p (go r.epoch q)
    where
      go : (o : Option ℕ) → (unwrap_or o e ≡ e → ⊥) → new_silence e now
          ≡ (if differ o (Some e) then new_silence e now else record { epoch = or_else o (Some e); count = r.count; last = r.last; until = r.until; counted = r.counted })
      go None q = absurd (q refl)
      go (Some a) q = rw (ne_eqb a e q)
