-- Table, record and buffer length determine the answer: two that meet the contract are the same.
use mathlib.Core.Path.{◌≡◌, sym, ap, ◌∙◌}
use Prim.Native.Nat.{ℕ}
use lib.Seq.{take_at}
use lib.ListN.{length, take, drop}
use Rattle.rules.specs.Base.{Bytes, All}
use Rattle.rules.specs.Data.{Result}
use Rattle.rules.specs.Output.{outputs}
use Rattle.rules.specs.Bounds.{IsByte}
use Rattle.rules.specs.Entry as rule
use Rattle.table_layout.specs.View.{view_table}
use Rattle.table_layout.proofs.Same.{same_table}
use Rattle.settle.specs.Contract.{Called, ruled, ruled_bytes}

pub record Same (t₁ t₂ o₁ o₂ : Bytes) (n₁ n₂ k₁ k₂ : ℕ) : Type 0 where
  pub number : n₁ ≡ n₂
  pub size : k₁ ≡ k₂
  pub written : take k₁ o₁ ≡ take k₂ o₂
  pub table : t₁ ≡ t₂

pub determined : {t o p t₁ t₂ o₁ o₂ : Bytes} {n₁ n₂ k₁ k₂ : ℕ} (s : Bytes) → length o ≡ length p → All IsByte t₁ → All IsByte t₂
    → Called t s o t₁ o₁ n₁ k₁ → Called t s p t₂ o₂ n₂ k₂ → Same t₁ t₂ o₁ o₂ n₁ n₂ k₁ k₂
determined {t} {o} {p} {k₁ = k₁} {k₂} s e a b x y =
    let r : ruled t s o ≡ ruled t s p = ap (λ (i : ℕ). rule.call s i (view_table t)) e in
    record {
      number = x.number ∙ ap (λ (d : Result). d.number) r ∙ sym y.number;
      size = x.size ∙ ap (λ (d : Result). length (outputs d.step.outs)) r ∙ sym y.size;
      written =
          ap (λ (i : Bytes). take k₁ i) x.bytes
          ∙ take_at (ruled_bytes t s o) (drop k₁ o) k₁ (sym x.size)
          ∙ ap (λ (d : Result). outputs d.step.outs) r
          ∙ sym (ap (λ (i : Bytes). take k₂ i) y.bytes ∙ take_at (ruled_bytes t s p) (drop k₂ p) k₂ (sym y.size));
      table = same_table x.left.fit y.left.fit a b (x.table ∙ ap (λ (d : Result). d.step.table) r ∙ sym y.table);
    }
