-- The codes that a record brings, kinds by what they are not, and steps that write nothing or change nothing.
use Rattle.std.specs.Prelude.{◌≡◌, refl, Bool, true, false, List, [], ℕ, get_or, if◌then◌else◌}
use Rattle.std.proofs.Common.{sym, ap, ◌∙◌, subst, arith}
use Rattle.rules.specs.Base.{Bytes}
use Rattle.rules.specs.Data.{Pair, Proven, Table, Why, Output, Step}
use Rattle.rules.specs.Field.{whys, why_code}
use Rattle.rules.specs.Links.{path}
use Rattle.rules.specs.Settle.{with_links, writes, still, ok, refuse, unsent, crowded, add_path}
use Rattle.output_record.specs.Write.{Puts, puts_none}
use Rattle.table_layout.specs.View.{view_table, FitTable, Told}
use Rattle.table_layout.proofs.Told.{told_same}
use Rattle.call_contract.specs.Did.{Ruled, ruled_ok}
use Rattle.call_path.specs.Path.{Numbered}

-- ---- codes
pub why_is : (w : Why) {k : ℕ} → why_code w ≡ k → get_or whys k Why.Restart ≡ w
why_is w {k} e = ap (λ (k : ℕ). get_or whys k Why.Restart) (sym e) ∙ same w
  where
    same : (w : Why) → get_or whys (why_code w) Why.Restart ≡ w
    same Why.Restart = refl
    same Why.Replacement = refl
    same Why.OwnRestart = refl
    same Why.Ended = refl
    same Why.Orphaned = refl
    same Why.Disconnect = refl
    same Why.Dead = refl
    same Why.Admin = refl
    same Why.Closed = refl

-- ---- the table alone
pub ruled_told : {t o t' : Bytes} {s : Step} → s.outs ≡ [] → Told t' s.table → Ruled t o 0 t' o 0 0 (ok s)
ruled_told {o = o} n k = ruled_ok (record { table = k; puts = subst (λ (l : List Output). Puts o 0 l o 0) (sym n) (puts_none o 0 (omega arith)) })

-- outputs alone
pub ruled_puts : {t o o' : Bytes} {r : ℕ} {s : List Output} → FitTable t → Puts o 0 s o' r → Ruled t o 0 t o' 0 r (ok (writes s (view_table t)))
ruled_puts f p = ruled_ok (record { table = told_same f; puts = p })

pub unsent_silent : (n : ℕ) (x : Table) → (unsent n x).outs ≡ []
unfolding unsent
unsent_silent n x = refl

-- a path, refused or not
path_silent : (n : ℕ) (p : Pair) (v : Proven) (x : Table) → (add_path n p v x).step.outs ≡ []
unfolding add_path
path_silent n p v x = go (crowded n p x)
  where
    go : (b : Bool) → (if b then refuse 7 x else ok (still (with_links (path n p v x.links) x))).step.outs ≡ []
    go true = refl
    go false = refl

pub ruled_path : {t o t' : Bytes} {k : ℕ} (n : ℕ) (p : Pair) (v : Proven) (x : Table) → Numbered t t' k (add_path n p v x) → Ruled t o 0 t' o k 0 (add_path n p v x)
ruled_path {o = o} n p v x a = record {
  number = a.number;
  did = record { table = a.table; puts = subst (λ (l : List Output). Puts o 0 l o 0) (sym (path_silent n p v x)) (puts_none o 0 (omega arith)) };
  kept = λ z. (a.kept z, refl);
}
