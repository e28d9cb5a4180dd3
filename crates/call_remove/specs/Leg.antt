-- A leg that ends: room for what is written of it, and what the table then shows.
use Rattle.std.specs.Prelude.{◌≡◌, ℕ, ◌+◌, ◌≤◌, None, Option, Some}
use Rattle.std.proofs.Common.{sym, ap, ◌∙◌}
use Rattle.std.proofs.Math.Path.{subst}
use mathlib.Core.List.{List}
use Rattle.std.proofs.Math.ListN.{length}
use Rattle.rules.specs.Base.{Bytes, option}
use Rattle.rules.specs.Data.{Pair, Leg, Table, Free, Retire}
use Rattle.rules.specs.Output.{output_record, pairs_bytes}
use Rattle.rules.specs.Links.{retired, retiring}
use Rattle.rules.specs.Legs.{on_link}
use Rattle.rules.specs.Settle.{with_links, drop_leg, still, ends, abandon}
use Rattle.lib_laws.specs.Scan.{scan}
use Rattle.lib_laws.specs.Place.{find_at, find_nowhere}
use Rattle.lib_laws.specs.Splice.{Wrote}
use Rattle.output_record.specs.Write.{puts_one}
use Rattle.legs.specs.View.{no_leg}
use Rattle.table_layout.specs.View.{view_table, Told, nth_leg}
use Rattle.table_layout.proofs.Told.{told_is, told_then}
use Rattle.call_contract.specs.Did.{Space, Did, space_head, space_tail, puts_cons}

-- ---- the leg g ends
module _ (x : Table) (g : Leg) where
  pub ends_free : {o : Bytes} {at : ℕ} → Space o at (ends g x).outs → at + 8 ≤ length o
  unfolding ends
  ends_free a = space_head (Free g.lease) a

  module _ {n l : ℕ} (e : n ≡ g.link) (q : l ≡ g.lease) where
    -- the links are as they were once the leg is gone
    listed : {t₁ : Bytes} {cs : List Pair} → Told t₁ (drop_leg n x) → cs ≡ retiring n (view_table t₁).links → cs ≡ retiring g.link x.links
    listed a s = s ∙ ap (λ (y : Table). retiring n y.links) a.shows ∙ ap (λ (k : ℕ). retiring k x.links) e

    freed : {o : Bytes} {at k : ℕ} {o₁ : Bytes} {a : ℕ} → Wrote o at k (output_record (Free l)) o₁ a → Wrote o at k (output_record (Free g.lease)) o₁ a
    freed {o} {at} {k} {o₁} {a} w = subst (λ (m : ℕ). Wrote o at k (output_record (Free m)) o₁ a) q w

    pub ends_retire : {o : Bytes} {at k : ℕ} {o₁ : Bytes} {a : ℕ} {t₁ : Bytes} {cs : List Pair} → Space o at (ends g x).outs
        → Wrote o at k (output_record (Free l)) o₁ a → Told t₁ (drop_leg n x) → cs ≡ retiring n (view_table t₁).links
        → a + (13 + length (pairs_bytes cs)) ≤ length o₁
    unfolding ends
    ends_retire {o₁ = o₁} {a} r w u s =
        subst (λ (c : List Pair). a + (13 + length (pairs_bytes c)) ≤ length o₁) (sym (listed u s))
        (space_head (Retire g.link (retiring g.link x.links)) (space_tail (Free g.lease) r (freed w)))

    pub ends_did : {o : Bytes} {at k : ℕ} {o₁ : Bytes} {a : ℕ} {t₁ : Bytes} {cs : List Pair} {t₂ : Bytes} {j : ℕ} {o₂ : Bytes} {r : ℕ}
        → Wrote o at k (output_record (Free l)) o₁ a → Told t₁ (drop_leg n x)
        → Told t₂ (with_links (retired n (view_table t₁).links) (view_table t₁)) → cs ≡ retiring n (view_table t₁).links
        → Wrote o₁ a j (output_record (Retire n cs)) o₂ r → Did o at t₂ o₂ r (ends g x)
    unfolding ends
    ends_did {o₁ = o₁} {a} {cs = cs} {j = j} {o₂} {r} w u v s z =
        let y : Wrote o₁ a j (output_record (Retire g.link (retiring g.link x.links))) o₂ r =
        subst (λ (c : List Pair). Wrote o₁ a j (output_record (Retire g.link c)) o₂ r) (listed u s)
        (subst (λ (m : ℕ). Wrote o₁ a j (output_record (Retire m cs)) o₂ r) e z) in
        record {
          table = told_is (told_then (λ (b : Table). with_links (retired n b.links) b) u v) (ap (λ (m : ℕ). with_links (retired m x.links) (drop_leg m x)) e);
          puts = puts_cons (Free g.lease) (freed w) (puts_one (Retire g.link (retiring g.link x.links)) y);
        }

-- ---- the leg on link n ends, if there is one
pub abandon_at : (n : ℕ) (x : Table) (i : ℕ) → scan (on_link n) 0 x.legs ≡ Some i → abandon n x ≡ ends (nth_leg x i) x
unfolding abandon
abandon_at n x i e = ap (λ (o : Option Leg). option o (still x) λ g. ends g x) (find_at (on_link n) x.legs i e no_leg)

pub abandon_none : (n : ℕ) (x : Table) → scan (on_link n) 0 x.legs ≡ None → abandon n x ≡ still x
unfolding abandon
abandon_none n x e = ap (λ (o : Option Leg). option o (still x) λ g. ends g x) (find_nowhere (on_link n) x.legs e)
