-- Demand 3 of a session: steps in a row from an accepted first record are a chain of calls, of which settle's promise holds.
use mathlib.Core.Path.{◌≡◌, refl, sym, ap, ◌∙◌, subst}
use mathlib.Core.List.{List, [], ◌∷◌, ◌++◌}
use Prim.Native.Nat.{ℕ}
use native.Mathlib.Omega.{arith}
use lib.Seq.{take_at}
use lib.ListN.{length, take, drop}
use Rattle.rules.specs.Base.{Bytes}
use Rattle.rules.specs.Output.{outputs, done_record}
use Rattle.table_layout.specs.View.{view_table}
use Rattle.settle.specs.Layout.{buffer_len}
use Rattle.settle.specs.Contract.{Begun, Called, ruled_bytes}
use Rattle.settle.specs.Promise.{Exchange, Each, Chain, call}
use Rattle.settle.proofs.Promise.{promise}
use Rattle.rules.specs.Entry.{Start, Made, Refused, new}
use Rattle.rules.specs.Entry as rule
use Rattle.tape.specs.Session.{State, opened, next}
use Rattle.tape.specs.Step.{state_of, Steps}
use Rattle.tape.proofs.Step.{stays}
use Rattle.tape.specs.Row.{Seen, Row, step, Same, Demand}
use Rattle.tape.specs.declared.session.Phase.{Phase}
use Rattle.tape.specs.declared.session.Phase.TheVariants as phase

-- a step writes what the rules write for the call, and call the outputs of it
step_wrote : {q : Phase} {t r o t' o' : Bytes} {n : ℕ} → Steps phase.Running t r o t' o' q n
    → take n o' ≡ outputs (rule.call r buffer_len (view_table t)).step.outs ++ done_record (rule.call r buffer_len (view_table t)).number
unfolding next
step_wrote {t = t} {r} {o} {n = n} a = ap (λ (b : Bytes). take n b) a.bytes ∙ take_at (next r (state_of phase.Running t)).0 (drop n o) n (sym a.size)

call_wrote : {t o t' o' : Bytes} {n k : ℕ} (r : Bytes) → Called t r o t' o' n k → length o ≡ buffer_len
    → take k o' ++ done_record n ≡ outputs (rule.call r buffer_len (view_table t)).step.outs ++ done_record (rule.call r buffer_len (view_table t)).number
call_wrote {t} {o} {n = n} {k} r c e =
    ap (λ (b : Bytes). take k b ++ done_record n) c.bytes
    ∙ ap (λ (b : Bytes). b ++ done_record n) (take_at (ruled_bytes t r o) (drop k o) k (sym c.size))
    ∙ ap (λ (i : ℕ). ruled_bytes t r o ++ done_record i) c.number
    ∙ ap (λ (i : ℕ). outputs (rule.call r i (view_table t)).step.outs ++ done_record (rule.call r i (view_table t)).number) e

record Chained (t : Bytes) (s : List Seen) (u : Bytes) : Type 0 where
  exchanges : List Exchange
  alike : Each Same exchanges s
  chain : Chain t exchanges u

-- a step of a session that runs is a call
chained_step : {q : Phase} {t t' o o' u : Bytes} {n : ℕ} {s : List Seen} (r : Bytes) → Steps phase.Running t r o t' o' q n → Chained t' s u
    → Chained t (record { bytes = r; written = take n o'; left = t' } ∷ s) u
chained_step {t' = t'} r a d =
    let c = a.by in
    record {
      exchanges = record { fed = record { bytes = r; buffer = length c.lent }; number = c.number; written = take c.written c.last; left = t' } ∷ d.exchanges;
      alike = (record { bytes = refl; buffer = c.size; written = step_wrote a ∙ sym (call_wrote r c.called c.size); left = refl }, d.alike);
      chain = call r c.bytes c.called d.chain;
    }

chained : {p v : Phase} {t u : Bytes} {s : List Seen} → p ≡ phase.Running → Row p t s v u → Chained t s u
chained e Row.end = record { exchanges = []; alike = tt; chain = Chain.end }
chained e (step {p} {q} {t = t} {t'} {o = o} {o'} {n} r a b) = chained_step r (subst (λ (p : Phase). Steps p t r o t' o' q n) e a) (chained (stays a e) b)

-- ---- a session that runs in the end has run since its first record

over_stays : {p q : Phase} {t r o t' o' : Bytes} {n : ℕ} → Steps p t r o t' o' q n → p ≡ phase.Over → q ≡ phase.Over
unfolding next
over_stays {p} {q} {t} {r} {o} {t'} {o'} {n} a e = go q (subst (λ (p : Phase). Steps p t r o t' o' q n) e a).state
  where
    go : (q : Phase) → state_of q t' ≡ (next r (state_of phase.Over t)).1 → q ≡ phase.Over
    go phase.Before f = cc
    go phase.Running f = cc
    go phase.Over f = refl

over_row : {p v : Phase} {t u : Bytes} {s : List Seen} → p ≡ phase.Over → Row p t s v u → v ≡ phase.Over
over_row e Row.end = e
over_row e (step r a b) = over_row (over_stays a e) b

-- after the first record it is never Before
begins : {q : Phase} {t r o t' o' : Bytes} {n : ℕ} → Steps phase.Before t r o t' o' q n → q ≡ phase.Before → ⊥
unfolding next
begins {t = t} {r} {o} {t'} {o'} {n} a e = go (new r) (subst (λ (q : Phase). Steps phase.Before t r o t' o' q n) e a).state
  where
    go : (x : Start) → State.Before ≡ (opened x).1 → ⊥
    go (Made y) f = let z : ◌≡◌ {A = ℕ} 0 1 = cc in omega arith
    go (Refused k) f = let z : ◌≡◌ {A = ℕ} 0 1 = cc in omega arith

runs : {t r o t' o' u : Bytes} {n : ℕ} {s : List Seen} (q : Phase) → Steps phase.Before t r o t' o' q n → Row q t' s phase.Running u → q ≡ phase.Running
runs phase.Before a b = absurd (begins a refl)
runs phase.Running a b = refl
runs phase.Over a b = sym (over_row refl b)

pub kept : Demand
kept t a s u (step {q = q} {t' = t'} r b c) =
    let e : q ≡ phase.Running = runs q b c in
    let o = b.by in
    let g : Begun t r t' 0 = subst (λ (k : ℕ). Begun t r t' k) (o.accepted e) o.begun in
    let d = chained e c in
    record { begun = g; exchanges = d.exchanges; alike = d.alike; promised = promise t r t' o.bytes g d.exchanges u d.chain }
