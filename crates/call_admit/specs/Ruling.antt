-- The ruling on a msg1: what it denies for, and what the places found say of it.
use Rattle.std.specs.Prelude.{◌≡◌, refl, Bool, true, false, [], ℕ, None, Option, Some, Ok, Err, Result, MatchResult, IsErrAnd}
use Rattle.std.proofs.Math.Path.{sym}
use Rattle.std.proofs.Common.{ap, ◌∙◌}
use Rattle.rules.specs.Base.{Bytes, option}
use Rattle.rules.specs.Time.{Params}
use Rattle.rules.specs.Data as rule
use Rattle.rules.specs.Gates.{memory_of, memory, silenced_for, judged}
use Rattle.rules.specs.Settle.{held_at, full, denied}
use Rattle.lib_laws.specs.Scan.{scan}
use Rattle.node_addr.specs.declared.Fixed.{Fixed}
use Rattle.gates_types.specs.declared.Source.{Source}
use Rattle.gates_types.specs.declared.Liveness.{Liveness}
use Rattle.gates_types.specs.declared.Refusal.{Refusal}
use Rattle.gates_types.specs.declared.Denial.{Denial}
use Rattle.gates_types.specs.declared.Denial.TheVariants as denial
use Rattle.gates_types.specs.View.{source_of, refusal_of, denial_of, refused_by, view_liveness}
use Rattle.gates_types.specs.Judge.{Alike, judged_alike}
use Rattle.gates.specs.Place.{memory_in, silenced_in, judged_in}

-- why it denies, if it does
abbrev pub denied_by : Result (Unit {0}) Denial → Option rule.Denial
denied_by (Ok u) = None
denied_by (Err d) = Some (denial_of d)

-- what a ruling reads of a hello: the peer p, the digest d, the epoch n
abbrev pub asks : Bytes → Bytes → ℕ → rule.Hello
asks p d n = record { peer = p; from = record { transport = 0; addr = [] }; bytes = []; ephemeral = d; epoch = n; msg2 = []; lease = 0 }

-- ---- what is judged of a holder is l
pub record Lives (l : Option Liveness) (o : Option rule.Held) : Type 0 where
  pub alike : Alike (view_liveness l) o

pub lives_none : {o : Option rule.Held} → o ≡ None → Lives None o
lives_none e = record { alike = rw e tt }

pub lives_is : {l : Option Liveness} {o : Option rule.Held} {h : rule.Held} → Lives l (Some h) → o ≡ Some h → Lives l o
lives_is a e = rw e a

pub lives_some : (h : rule.Held) {l : Liveness} → l.heard ≡ h.heard → l.installed ≡ h.installed → l.last ≡ h.last → Lives (Some l) (Some h)
lives_some h a b c = record { alike = (a, b, c) }

-- ---- the ruling

-- what is judged, as a denial
abbrev judgement : Option rule.Refusal → Option rule.Denial
judgement o = option o None λ r. Some (rule.Gate r)

-- the peer's memory was found at the place, or none was
module _ (x : rule.Table) (now : ℕ) (k : Source) (p : Bytes) (d : Fixed 32) (n : ℕ) {place : Option ℕ} (f : place ≡ scan (memory_of p) 0 x.gates) where
  silenced : {b v : Bool} → b ≡ silenced_for now (source_of k) (Some n) (memory_in place x.gates) → b ≡ v → silenced_for now (source_of k) (Some n) (memory p x.gates) ≡ v
  silenced e q = sym (silenced_in p x.gates place f now (source_of k) (Some n)) ∙ sym e ∙ q

  pub denied_silent : {b : Bool} → b ≡ silenced_for now (source_of k) (Some n) (memory_in place x.gates) → b ≡ true → Some (rule.Gate rule.Silent) ≡ denied now (source_of k) (asks p d.0 n) x
  unfolding denied
  denied_silent e q = rw (silenced e q)

  module _ {b : Bool} (e : b ≡ silenced_for now (source_of k) (Some n) (memory_in place x.gates)) (q : b ≡ false) where
    pub denied_full : {w : Bool} → w ≡ full x → w ≡ true → Some rule.Full ≡ denied now (source_of k) (asks p d.0 n) x
    unfolding denied
    denied_full g h = rw (silenced e q, sym g ∙ h)

    module _ {w : Bool} (g : w ≡ full x) (h : w ≡ false) {c : Params} (i : c ≡ x.params) {l : Option Liveness} (a : Lives l (held_at p x)) where
      by_judgement : (v : Result (Unit {0}) Refusal) → refused_by v ≡ judged c now (source_of k) (view_liveness l) d.0 (memory_in place x.gates) → judgement (refused_by v) ≡ denied now (source_of k) (asks p d.0 n) x
      unfolding denied
      by_judgement v j =
          let same = judged_in p x.gates place f x.params now (source_of k) (view_liveness l) d.0 in
          let alike = judged_alike x.params now (memory p x.gates) (source_of k) d.0 (view_liveness l) (held_at p x) a.alike in
          rw (silenced e q, sym g ∙ h) (ap judgement (rw i at j ∙ same ∙ alike))

      -- it passes, or refuses
      pub denied_pass : (v : Result (Unit {0}) Refusal) → refused_by v ≡ judged c now (source_of k) (view_liveness l) d.0 (memory_in place x.gates) → {u : Unit {0}} → v ≡ Ok u → None ≡ denied now (source_of k) (asks p d.0 n) x
      denied_pass v j z = rw z at (by_judgement v j)

      pub denied_refuse : (v : Result (Unit {0}) Refusal) → refused_by v ≡ judged c now (source_of k) (view_liveness l) d.0 (memory_in place x.gates) → (r : Refusal) → v ≡ Err r
          → Some (rule.Gate (refusal_of r)) ≡ denied now (source_of k) (asks p d.0 n) x
      denied_refuse v j r z = rw z at (by_judgement v j)

      -- as `map_err` hands it on
      pub denied_mapped : (v : Result (Unit {0}) Refusal) → refused_by v ≡ judged c now (source_of k) (view_liveness l) d.0 (memory_in place x.gates) → (w : Result (Unit {0}) Denial)
          → MatchResult v (λ u. w ≡ Ok u) (λ r. IsErrAnd w (λ y. y ≡ denial.Gate r)) → denied_by w ≡ denied now (source_of k) (asks p d.0 n) x
      denied_mapped (Ok u) j w m = ap denied_by m ∙ denied_pass (Ok u) j refl
      denied_mapped (Err r) j (Ok u) m = absurd m
      denied_mapped (Err r) j (Err y) m = ap (λ (z : Denial). Some (denial_of z)) m ∙ denied_refuse (Err r) j r refl

-- ---- what a ruling tells of a hello
module _ (now : ℕ) (s : rule.Source) (y : rule.Hello) (x : rule.Table) {r : Result (Unit {0}) Denial} (q : denied_by r ≡ denied now s (asks y.peer y.ephemeral y.epoch) x) where
  pub admits : {u : Unit {0}} → r ≡ Ok u → None ≡ denied now s y x
  unfolding denied
  admits e = rw e at q

  pub denies : {why : Denial} → r ≡ Err why → Some (denial_of why) ≡ denied now s y x
  unfolding denied
  denies e = rw e at q
