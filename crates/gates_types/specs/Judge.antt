-- Of a holder a judgement reads only its liveness.
use Rattle.std.specs.Prelude.{◌≡◌, refl, ℕ, None, Option, Some}
use Rattle.rules.specs.Base.{Bytes}
use Rattle.rules.specs.Time.{Params}
use Rattle.rules.specs.Data as rule
use Rattle.rules.specs.Gates.{young, judge, judged}

abbrev pub Alike : Option rule.Held → Option rule.Held → Type 0
Alike None None = Unit {0}
Alike None (Some k) = ⊥
Alike (Some h) None = ⊥
Alike (Some h) (Some k) = (h.heard ≡ k.heard) × (h.installed ≡ k.installed) × (h.last ≡ k.last)

pub judged_alike : (c : Params) (now : ℕ) (m : rule.Memory) (x : rule.Source) (e : Bytes) (h k : Option rule.Held) → Alike h k → judged c now x h e m ≡ judged c now x k e m
unfolding judged judge young
judged_alike c now m x e None None a = refl
judged_alike c now m x e None (Some k) a = absurd a
judged_alike c now m x e (Some h) None a = absurd a
judged_alike c now m x e (Some h) (Some k) a = rw (a.0, a.1, a.2)
