-- A Wake as it is written.
use Rattle.std.specs.Prelude.{◌≡◌, [], ◌∷◌, ℕ, ◌+◌, ◌≤◌, length, None, Option, Some}
use Rattle.std.proofs.Common.{sym, subst}
use Rattle.rules.specs.Base.{option, Bytes}
use Rattle.rules.specs.Data.{Output}
use Rattle.rules.specs.Output.{output_record}
use Rattle.lib_laws.specs.Splice.{Wrote}
use Rattle.output_record.specs.Write.{Puts, puts_one}
use Rattle.call_contract.specs.Did.{Space, space_head}

wake_size : {o : Bytes} {at : ℕ} (w : Option ℕ) → Space o at (Output.Wake w ∷ []) → at + option w 5 (λ t. 13) ≤ length o
wake_size (Some time) a = space_head (Output.Wake (Some time)) a
wake_size None a = space_head (Output.Wake None) a

module _ {w : Option ℕ} {r : Option ℕ} (e : r ≡ w) where
  pub wake_room : {o : Bytes} {at : ℕ} → Space o at (Output.Wake w ∷ []) → at + option r 5 (λ t. 13) ≤ length o
  wake_room {o} {at} a = wake_size r (subst (λ (v : Option ℕ). Space o at (Output.Wake v ∷ [])) (sym e) a)

  pub wake_puts : {o : Bytes} {at n : ℕ} {o' : Bytes} {k : ℕ} → Wrote o at n (output_record (Output.Wake r)) o' k → Puts o at (Output.Wake w ∷ []) o' k
  wake_puts {o} {at} {o' = o'} {k} p = subst (λ (v : Option ℕ). Puts o at (Output.Wake v ∷ []) o' k) e (puts_one (Output.Wake r) p)
