-- What `run` promises, of a tape that it ran whole: the bytes of the rules' tape, and the state of the whole session. 10,245 bytes for each record are enough.
use mathlib.Core.Path.{◌≡◌, refl, ap, ◌∙◌}
use mathlib.Core.Bool.{Bool, true}
use mathlib.Core.List.{List, [], ◌∷◌, ◌++◌}
use Prim.Native.Nat.{ℕ, ◌*◌, ◌≤◌}
use lib.ListN.{length, drop}
use Rattle.rules.specs.Base.{Bytes, All, empty}
use Rattle.rules.specs.Tape.{run}
use Rattle.rules.specs.Bounds.{IsByte}
use Rattle.tape.specs.Layout.{out_len}
use Rattle.tape.specs.Session.{Before, after}
use Rattle.tape.specs.Cut.{records_of}
use Rattle.tape.proofs.Within.{within_whole, run_whole, run_enough}
use Rattle.tape.specs.Step.{state_of}
use Rattle.tape.specs.Run.{ran_in, Runs}
use Rattle.tape.specs.declared.session.Phase.{Phase}

none_left : (l : List Bytes) → true ≡ empty l → l ≡ []
none_left [] e = refl
none_left (r ∷ s) e = cc

module _ {s t o t' o' : Bytes} {q : Phase} {n : ℕ} where
  pub ran_bytes : Runs s t o t' o' q n true → o' ≡ run s ++ drop n o
  ran_bytes a = a.bytes ∙ ap (λ (w : Bytes). w ++ drop n o) (run_whole (length o) s (none_left (ran_in s o).1 a.whole))

  pub ran_state : Runs s t o t' o' q n true → state_of q t' ≡ (after (records_of s) Before).1
  ran_state a = a.state ∙ (within_whole (length o) (records_of s) Before (none_left (ran_in s o).1 a.whole)).state

  pub ran_enough : {all : Bool} → All IsByte s → out_len * length (records_of s) ≤ length o → Runs s t o t' o' q n all → all ≡ true
  ran_enough h f a = a.whole ∙ ap (λ (l : List Bytes). empty l) (run_enough (length o) s h f)
