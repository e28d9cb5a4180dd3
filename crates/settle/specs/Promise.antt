-- Demand 3 of the program: a lease is never lost and never doubled, whatever the order of calls. Each part is said of what the calls themselves answered, wrote and left.
use Rattle.std.specs.Prelude.{◌≡◌, List, [], ◌∷◌, ◌++◌, map, ℕ, ◌+◌, eqb, length, take, if◌then◌else◌}
use Rattle.rules.specs.Base.{Bytes, tally, All}
use Rattle.rules.specs.Data.{Output}
use Rattle.rules.specs.Output.{outputs}
use Rattle.rules.specs.Claim.{Fed, play, lease_in, is_lease, holding, given, Unused, Owned}
use Rattle.rules.specs.Bounds.{IsByte}
use Rattle.table_layout.specs.View.{view_table}
use Rattle.settle.specs.Contract.{Begun, Called}

-- What is kept of a call: its record with the buffer's length, the number that it answered, the bytes that it wrote, and the table's bytes when it ended.
pub record Exchange : Type 0 where
  pub fed : Fed
  pub number : ℕ
  pub written : Bytes
  pub left : Bytes

-- Calls in a row, each lent the table that the last one left, with any record and any buffer: from the table t to the table u.
pub data Chain : Bytes → List Exchange → Bytes → Type 0 where
  end : {t : Bytes} → Chain t [] t
  call : {t t' u o o' : Bytes} {n k : ℕ} {l : List Exchange} (s : Bytes) → All IsByte s → Called t s o t' o' n k → Chain t' l u
      → Chain t (record { fed = record { bytes = s; buffer = length o }; number = n; written = take k o'; left = t' } ∷ l) u

-- calls that brought the lease n and answered 0
abbrev pub accepted : ℕ → List Exchange → ℕ
accepted n l = tally (λ x. if eqb x.number 0 then is_lease n (lease_in x.fed) else 0) l

-- The call's own bytes are those of the outputs os. (iii) No pair that these list is used by a live link of the table that the call left.
pub record Wrote (x : Exchange) (os : List Output) : Type 0 where
  pub bytes : x.written ≡ outputs os
  pub unused : Unused (view_table x.left).links os

-- what holds of each with the other list's at its place; the lists are as long
abbrev pub Each : {A B : Type 0} → (A → B → Type 0) → List A → List B → Type 0
Each P [] [] = Unit {0}
Each P [] (b ∷ s) = ⊥
Each P (a ∷ l) [] = ⊥
Each P (a ∷ l) (b ∷ s) = P a b × Each P l s

abbrev pub flat : List (List Output) → List Output
flat [] = []
flat (os ∷ outs) = os ++ flat outs

abbrev pub feds : List Exchange → List Fed
feds l = map (λ x. x.fed) l

-- What holds after the calls l, from the table t to u.
pub record Promised (t : Bytes) (l : List Exchange) (u : Bytes) : Type 0 where
  -- the outputs of each call, and (iii)
  pub outs : List (List Output)
  pub wrote : Each Wrote l outs
  -- (i) calls that accepted the lease = live legs that hold it + Free and Install outputs with it
  pub leases : (n : ℕ) → accepted n l ≡ holding n (view_table u) + given n (flat outs)
  -- (ii) each live link has one owner, a leg or a held peer, and each of those a live link
  pub owners : Owned (view_table u)
  -- table and outputs are what the definitions give for the records and buffer lengths alone
  pub table : view_table u ≡ (play (feds l) (view_table t)).table
  pub played : flat outs ≡ (play (feds l) (view_table t)).outs

-- for every accepted record of new and every chain of calls
abbrev pub Promise : Type 0
Promise = (t₀ r t : Bytes) → All IsByte r → Begun t₀ r t 0 → (l : List Exchange) (u : Bytes) → Chain t l u → Promised t l u
