-- The paths of a link: a path that is refused or not, and a release.
use Rattle.std.specs.Bool.{then_some}
use Rattle.std.specs.Prelude.{◌≡◌, Bool, true, false, List, [], ◌∷◌, ℕ, ◌+◌, ◌≤◌, length, if◌then◌else◌, None, Option, Some}
use Rattle.std.proofs.Math.Path.{refl}
use Rattle.std.proofs.Common.{sym, ◌∙◌, arith, length-append}
use Rattle.rules.specs.Base.{option, Bytes}
use Rattle.rules.specs.Data.{Pair, Proven, Table, Output, Result}
use Rattle.rules.specs.Field.{pair_bytes}
use Rattle.rules.specs.Output.{pairs_bytes, output_record}
use Rattle.rules.specs.Links.{path, released, releasing}
use Rattle.rules.specs.Settle.{with_links, writes, crowded, add_path, release}
use Rattle.lib_laws.specs.Splice.{Wrote}
use Rattle.node_addr.specs.declared.Pair as pair
use Rattle.node_addr.specs.View.{view_pair}
use Rattle.output_field.specs.Part.{pair_length}
use Rattle.output_record.specs.Write.{puts_one}
use Rattle.table_layout.specs.View.{view_table, FitTable, Told}
use Rattle.table_layout.proofs.Told.{told_same}
use Rattle.call_contract.specs.Did.{Space, Did, space_is, did_is, space_head}

-- the step of a result on the table t, its outputs apart: the number n, the table t' after it. A refusal leaves t as it is
pub record Numbered (t t' : Bytes) (n : ℕ) (d : Result) : Type 0 where
  pub number : n ≡ d.number
  pub table : Told t' d.step.table
  pub kept : (n ≡ 0 → ⊥) → t' ≡ t

-- ---- path
module _ (n : ℕ) (p : Pair) (v : Proven) {t : Bytes} where
  pub path_refused : {b : Bool} → FitTable t → b ≡ crowded n p (view_table t) → b ≡ true → Numbered t t 7 (add_path n p v (view_table t))
  unfolding add_path
  path_refused f e w = rw (sym e ∙ w) (record { number = refl; table = told_same f; kept = λ k. refl })

  pub path_added : {b : Bool} {u : Bytes} → b ≡ crowded n p (view_table t) → b ≡ false → Told u (with_links (path n p v (view_table t).links) (view_table t)) → Numbered t u 0 (add_path n p v (view_table t))
  unfolding add_path
  path_added e w k = rw (sym e ∙ w) (record { number = refl; table = k; kept = λ z. absurd (z refl) })

-- ---- release: the pair, if it is to close
abbrev listed : Option pair.Pair → List Pair
listed o = option o [] (λ p. view_pair p ∷ [])

listed_if : (b : Bool) (p : pair.Pair) → listed (then_some b p) ≡ (if b then (view_pair p ∷ []) else [])
listed_if true p = refl
listed_if false p = refl

module _ (n : ℕ) (p : pair.Pair) (keep : Bool) (x : Table) (b : Bool) {c : Option pair.Pair}
    (e : (if b then (view_pair p ∷ []) else []) ≡ releasing n (view_pair p) keep x.links) (f : c ≡ then_some b p) where
  release_is : release n (view_pair p) keep x ≡ writes (Output.Release n (listed c) ∷ []) (with_links (released n (view_pair p) x.links) x)
  unfolding release
  release_is = rw (← e, f, listed_if b p) refl

  pub release_room : {o : Bytes} {at : ℕ} → Space o at (release n (view_pair p) keep x).outs → at + option c 13 (λ p. 18 + p.addr.len) ≤ length o
  release_room {o} {at} a = go c (space_head _ (space_is a release_is))
    where
      go : (c : Option pair.Pair) → at + (13 + length (pairs_bytes (listed c))) ≤ length o → at + option c 13 (λ p. 18 + p.addr.len) ≤ length o
      go (Some q) h = omega (arith, length-append (pair_bytes (view_pair q)) [], pair_length q)
      go None h = h

  pub release_did : {t o : Bytes} {at k : ℕ} {o' : Bytes} {r : ℕ} → Told t (with_links (released n (view_pair p) x.links) x)
      → Wrote o at k (output_record (Output.Release n (listed c))) o' r → Did o at t o' r (release n (view_pair p) keep x)
  release_did t w = did_is (record { table = t; puts = puts_one _ w }) (sym release_is)
