-- Demand 3, for every list of records from an accepted record of new.
use Rattle.std.specs.Prelude.{Some}
use mathlib.Core.Path.{◌≡◌, refl, subst}
use mathlib.Core.Bool.{false}
use mathlib.Core.List.{List, [], ◌∷◌}
use Prim.Native.Nat.{ℕ, ◌+◌}
use native.Mathlib.Omega.{arith}
use Rattle.rules.specs.Base.{Bytes}
use Rattle.rules.specs.Time.{Params, out_of_range}
use Rattle.rules.specs.Data.{Table, Step}
use Rattle.rules.specs.Settle.{◌▸◌}
use Rattle.rules.specs.Record.{Begin, read_new}
use Rattle.rules.specs.Entry.{Start, Made, Refused, new_table, new}
use Rattle.rules.specs.Claim.{Fed, play, answer, accepted, holding, gives, given, UnusedAfter, Claim}
use Rattle.rules.proofs.Lists.{if_by, option_by, tally_append}
use Rattle.rules.proofs.Good.{Good}
use Rattle.rules.proofs.Calls.{fair_call}

-- ---- a new table

-- a table that was made is new, by a record that was read and is in range
pub made : (P : Table → Type 0) (r : Bytes) (t : Table) → new r ≡ Made t
    → ((b : Begin) → read_new r ≡ Some b → out_of_range b.params ≡ false → P (new_table b.me b.first b.params)) → P t
unfolding new
made P r t e f = option_by Q (read_new r) (λ z w. never 3 w)
    (λ b z. if_by Q (out_of_range b.params) (λ q w. never 1 w)
    (λ q w.
    let same : new_table b.me b.first b.params ≡ t = cc in
    subst P same (f b z q))) e
  where
    Q : Start → Type 0
    Q d = d ≡ Made t → P t

    never : (n : ℕ) → Refused n ≡ Made t → P t
    never n w =
        let z : ◌≡◌ {A = ℕ} 0 1 = cc in
        absurd (omega arith)

good_new : (me : Bytes) (first : ℕ) (c : Params) → Good (new_table me first c)
unfolding new_table
good_new me first c = record { owned = record { one_owner = λ n. refl; one_record = λ n. omega arith }; below = λ n b. refl }

none_held : (me : Bytes) (first : ℕ) (c : Params) (l : ℕ) → holding l (new_table me first c) ≡ 0
unfolding new_table
none_held me first c l = refl

pub good_made : (r : Bytes) (t : Table) → new r ≡ Made t → Good t
good_made r t e = made Good r t e (λ b z q. good_new b.me b.first b.params)

-- ---- a list of records

-- Account from any table: what it holds at first is counted too
record Accounted (s : List Fed) (t : Table) : Type 0 where
  good : Good (play s t).table
  leases : (l : ℕ) → holding l t + accepted l s t ≡ holding l (play s t).table + given l (play s t).outs
  closed : UnusedAfter s t

accounted : (s : List Fed) (t : Table) → Good t → Accounted s t
unfolding play accepted UnusedAfter ◌▸◌
accounted [] t k = record { good = k; leases = λ l. omega arith; closed = tt }
accounted (x ∷ s) t k =
    let e : Step = (answer x t).step in
    let a = fair_call x t k in
    let r = accounted s e.table a.good in
    record {
      good = r.good;
      leases = λ l. omega (arith, a.lease l, r.leases l, tally_append (gives l) e.outs (play s e.table).outs);
      closed = (a.unused, r.closed);
    }

-- every list leaves a good table
pub good_play : (s : List Fed) (t : Table) → Good t → Good (play s t).table
good_play s t k = (accounted s t k).good

pub demand : Claim
demand r t e s =
    let a = accounted s t (good_made r t e) in
    let z : (l : ℕ) → holding l t ≡ 0 = made (λ u. (l : ℕ) → holding l u ≡ 0) r t e (λ b y q. none_held b.me b.first b.params) in
    record { leases = λ l. omega (arith, a.leases l, z l); owners = a.good.owned; closed = a.closed }
