-- What `arrived` comes to.
use Rattle.std.specs.Prelude.{◌≡◌, Bool, true, false, List, [], ◌∷◌, ℕ, ◌+◌, ◌≤◌, length, if◌then◌else◌, None, Some}
use Rattle.std.proofs.Common.{sym, ◌∙◌}
use Rattle.rules.specs.Base.{Bytes}
use Rattle.rules.specs.Data.{Pair, Table, Full, Output, Reject}
use Rattle.rules.specs.Settle.{writes, stored, full, arrived}
use Rattle.rules.specs.Output.{output_record}
use Rattle.lib_laws.specs.Splice.{Wrote}
use Rattle.output_record.specs.Write.{Puts, puts_one}
use Rattle.table_layout.specs.View.{view_table, FitTable}
use Rattle.table_layout.proofs.Told.{told_same}
use Rattle.call_contract.specs.Did.{Space, Did, space_head, space_is, did_is, puts_end}

-- the Reject that names nobody
abbrev pub fullness : Table → List Output
fullness x = if full x then Reject None Full ∷ [] else []

module _ (x : Table) {b : Bool} (e : b ≡ full x) where
  pub full_room : {o : Bytes} {at : ℕ} → b ≡ true → Space o at (fullness x) → at + 6 ≤ length o
  full_room {o} {at} q a = space_head (Reject None Full) (rw (sym e ∙ q) at a)

  pub full_puts : {o : Bytes} {at : ℕ} {o₁ : Bytes} {r : ℕ} → b ≡ true → Wrote o at 6 (output_record (Reject None Full)) o₁ r → Puts o at (fullness x) o₁ r
  full_puts q w = rw (sym e ∙ q) (puts_one (Reject None Full) w)

  pub full_not : {o : Bytes} {at : ℕ} → b ≡ false → Space o at (fullness x) → Puts o at (fullness x) o at
  full_not q a = rw (sym e ∙ q) (puts_end (rw (sym e ∙ q) at a))

-- ---- with a stored msg2, or with none
module _ (p : Pair) (bytes t : Bytes) where
  module _ {n : ℕ} {m : Bytes} (e : stored p bytes (view_table t) ≡ Some (record { link = n; msg2 = m })) where
    again : arrived p bytes (view_table t) ≡ writes (Output.Answer n true m ∷ []) (view_table t)
    unfolding arrived
    again = rw e

    pub again_room : {o : Bytes} {at : ℕ} → Space o at (arrived p bytes (view_table t)).outs → at + (15 + length m) ≤ length o
    again_room a = space_head (Output.Answer n true m) (space_is a again)

    pub again_did : {o : Bytes} {at k : ℕ} {o₁ : Bytes} {r : ℕ} → FitTable t → Wrote o at k (output_record (Output.Answer n true m)) o₁ r → Did o at t o₁ r (arrived p bytes (view_table t))
    again_did f w = did_is (record { table = told_same f; puts = puts_one _ w }) (sym again)

  module _ (e : stored p bytes (view_table t) ≡ None) where
    new : arrived p bytes (view_table t) ≡ writes (fullness (view_table t)) (view_table t)
    unfolding arrived
    new = rw e

    pub new_space : {o : Bytes} {at : ℕ} → Space o at (arrived p bytes (view_table t)).outs → Space o at (fullness (view_table t))
    new_space a = space_is a new

    pub new_did : {o : Bytes} {at : ℕ} {o₁ : Bytes} {r : ℕ} → FitTable t → Puts o at (fullness (view_table t)) o₁ r → Did o at t o₁ r (arrived p bytes (view_table t))
    new_did f w = did_is (record { table = told_same f; puts = w }) (sym new)
