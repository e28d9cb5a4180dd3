-- The program keeps its promise: by the contracts of new and call each chain is a run of the definitions, of which demand 3 is proved.
use Rattle.std.specs.Prelude.{if◌then◌else◌}
use mathlib.Core.Path.{◌≡◌, refl, sym, ap, ◌∙◌, subst}
use mathlib.Core.List.{List, [], ◌∷◌, ◌++◌}
use Prim.Native.Nat.{ℕ, ◌+◌}
use lib.Dec.{eqb}
use lib.Seq.{take_at}
use lib.ListN.{length, take, drop}
use Rattle.rules.specs.Base.{Bytes}
use Rattle.rules.specs.Data.{Table, Output}
use Rattle.rules.specs.Settle.{◌▸◌}
use Rattle.rules.specs.Claim.{Fed, play, lease_in, is_lease, holding, given, Unused, UnusedAfter, Owned, Account}
use Rattle.rules.specs.Claim as rule
use Rattle.rules.proofs.Demand.{demand}
use Rattle.table_layout.specs.View.{view_table}
use Rattle.settle.specs.Contract.{Called, ruled, ruled_bytes}
use Rattle.settle.specs.Promise.{Exchange, Chain, end, call, accepted, Wrote, Each, flat, feds, Promise}

-- what a chain did is what the definitions play
record Plays (t : Bytes) (l : List Exchange) (u : Bytes) : Type 0 where
  outs : List (List Output)
  wrote : Each Wrote l outs
  count : (n : ℕ) → accepted n l ≡ rule.accepted n (feds l) (view_table t)
  table : view_table u ≡ (play (feds l) (view_table t)).table
  played : flat outs ≡ (play (feds l) (view_table t)).outs

wrote : {t o t' o' : Bytes} {n k : ℕ} (s : Bytes) → Called t s o t' o' n k → take k o' ≡ ruled_bytes t s o
wrote {t} {o} {k = k} s c = ap (λ (b : Bytes). take k b) c.bytes ∙ take_at (ruled_bytes t s o) (drop k o) k (sym c.size)

plays : {t u : Bytes} {l : List Exchange} → Chain t l u → UnusedAfter (feds l) (view_table t) → Plays t l u
unfolding play ◌▸◌ rule.accepted UnusedAfter
plays end z = record { outs = []; wrote = tt; count = λ n. refl; table = refl; played = refl }
plays (call {t} {t'} {u} {o} {o'} {n} {k} {l} s b c d) z =
    let p = plays d (subst (UnusedAfter (feds l)) (sym c.table) z.1) in
    let e : List Output = (ruled t s o).step.outs in
    let x : Fed = record { bytes = s; buffer = length o } in
    record {
      outs = e ∷ p.outs;
      wrote = (record { bytes = wrote s c; unused = subst (λ (y : Table). Unused y.links e) (sym c.table) z.0 }, p.wrote);
      count = λ m.
          ap (λ (i : ℕ). (if eqb i 0 then is_lease m (lease_in x) else 0) + accepted m l) c.number
          ∙ ap (λ (i : ℕ). (if eqb (ruled t s o).number 0 then is_lease m (lease_in x) else 0) + i) (p.count m ∙ ap (λ (y : Table). rule.accepted m (feds l) y) c.table);
      table = p.table ∙ ap (λ (y : Table). (play (feds l) y).table) c.table;
      played = ap (λ (os : List Output). e ++ os) (p.played ∙ ap (λ (y : Table). (play (feds l) y).outs) c.table);
    }

pub promise : Promise
promise t₀ r t b g l u c =
    let a : Account (feds l) (view_table t) = demand r (view_table t) g.is (feds l) in
    let p = plays c a.closed in
    record {
      outs = p.outs;
      wrote = p.wrote;
      leases = λ n. p.count n ∙ a.leases n ∙ ap (λ (x : Table). holding n x + given n (play (feds l) (view_table t)).outs) (sym p.table) ∙ ap (λ (os : List Output). holding n (view_table u) + given n os) (sym p.played);
      owners = subst Owned (sym p.table) a.owners;
      table = p.table;
      played = p.played;
    }
